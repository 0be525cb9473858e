-- The first digit of a number that is not zero, and numbers as far as 32 bits hold them.
use Rattle.std.proofs.Common.{◌≡◌, ℕ, ◌-◌, ◌<◌, ◌≤◌, Bool, true, false, not, eqb, leb, if◌then◌else◌, Some, None, refl, arith}
use Rattle.std.specs.Char.{is_ascii_digit}
use Rattle.std.proofs.lemmas.Bool.{and_parts}
use Rattle.std.proofs.lemmas.Bool.Decides.{nat_tests}
use Rattle.fx_text.specs.Digits.{capped}

pub first_digit : (c : ℕ) → not (eqb c 48) ≡ true → is_ascii_digit c ≡ true → 1 ≤ c - 48
first_digit c some digit = let q = and_parts (leb 48 c) (leb c 57) digit in grind (arith, nat_tests, some, q.0, q.1)

-- a number is within an end below ten thousand just where it is so as far as 32 bits hold it
pub capped_within : (most n : ℕ) → most < 10000
    → (if leb (capped n) most then Some (capped n) else None) ≡ (if leb n most then Some n else None)
capped_within most n small = by_test (leb n most) refl where
  by_test : (b : Bool) → leb n most ≡ b
      → (if leb (capped n) most then Some (capped n) else None) ≡ (if leb n most then Some n else None)
  by_test true e = let same : capped n ≡ n = grind (arith, nat_tests, e) in rw same refl
  by_test false e = let great : leb (capped n) most ≡ false = grind (arith, nat_tests, e) in rw (great, e) refl
