-- Numbers of digits, one text behind another, and how great they are.
use Rattle.std.proofs.Common.{◌≡◌, ℕ, ◌+◌, ◌-◌, ◌*◌, ◌^◌, ◌<◌, ◌≤◌, min, true, nat_le, List, [], ◌∷◌, ◌++◌, length, get_or, take, refl, ap, ◌∙◌, arith}
use Rattle.std.specs.Char.{is_ascii_digit}
use Rattle.std.specs.List.{list_all}
use Rattle.std.proofs.lemmas.Bool.{and_parts}
use Rattle.std.proofs.lemmas.Bool.Decides.{nat_tests}
use Rattle.std.proofs.lemmas.List.{length-append, take_more}
use Rattle.std.proofs.lemmas.Nat.{pow-add}
use Rattle.std.proofs.Math.Nat.{pow-suc, one-le-pow, mul-le-mul_right}
use Rattle.fx_text.specs.Digits.{capped, number_of_digits, number_behind}

regroup : (v a b n m : ℕ) → v * (a * b) + (n * b + m) ≡ (v * a + n) * b + m
regroup v a b n m = omega arith

pub number-append : (xs ys : List ℕ) → number_of_digits (xs ++ ys) ≡ number_of_digits xs * 10 ^ length ys + number_of_digits ys
number-append [] ys = omega arith
number-append (c ∷ cs) ys =
    let power : 10 ^ length (cs ++ ys) ≡ 10 ^ length cs * 10 ^ length ys = ap (λ n. 10 ^ n) (length-append cs ys) ∙ pow-add 10 (length cs) (length ys) in
    rw (power, number-append cs ys) (regroup (c - 48) (10 ^ length cs) (10 ^ length ys) (number_of_digits cs) (number_of_digits ys))

pub ten_power : (n : ℕ) → 0 < 10 ^ n
ten_power n = let p = one-le-pow n 10 (omega arith) in omega (arith, p)

pub digit_small : (c : ℕ) → is_ascii_digit c ≡ true → c - 48 ≤ 9
digit_small c e = let q = and_parts (nat_le 48 c) (nat_le c 57) e in grind (arith, nat_tests, q.0, q.1)

pub number_small : (ds : List ℕ) → list_all is_ascii_digit ds ≡ true → number_of_digits ds < 10 ^ length ds
number_small [] e = omega arith
number_small (c ∷ cs) e =
    let q = and_parts (is_ascii_digit c) (list_all is_ascii_digit cs) e in
    let ih = number_small cs q.1 in
    let most = mul-le-mul_right (10 ^ length cs) (digit_small c q.0) in
    rw (pow-suc 10 (length cs)) (omega (arith, ih, most))

-- the number that is read from the left on is the one that the digits write
pub number_behind_is : (n : ℕ) (ds : List ℕ) → number_behind n ds ≡ n * 10 ^ length ds + number_of_digits ds
number_behind_is n [] = omega arith
number_behind_is n (d ∷ ds) =
    let here = number_behind_is (n * 10 + (d - 48)) ds in
    let power : 10 ^ length (d ∷ ds) ≡ 10 ^ length ds * 10 = pow-suc 10 (length ds) in
    let shape : n * (10 ^ length ds * 10) ≡ (n * 10) * 10 ^ length ds = omega arith in
    let start : (n * 10 + (d - 48)) * 10 ^ length ds ≡ (n * 10) * 10 ^ length ds + (d - 48) * 10 ^ length ds = omega arith in
    rw power (here ∙ omega arith)

pub number_behind-append : (n : ℕ) (xs ys : List ℕ) → number_behind n (xs ++ ys) ≡ number_behind (number_behind n xs) ys
number_behind-append n [] ys = refl
number_behind-append n (d ∷ xs) ys = number_behind-append (n * 10 + (d - 48)) xs ys

-- one digit more, as far as 32 bits hold the number
pub capped-digit : (digits : List ℕ) (i before times after : ℕ) → i < length digits → before ≡ capped (number_of_digits (take i digits))
    → times ≡ min (before * 10) (2 ^ 32 - 1) → after ≡ min (times + (get_or digits i 0 - 48)) (2 ^ 32 - 1)
    → after ≡ capped (number_of_digits (take (i + 1) digits))
capped-digit digits i before times after within b t a =
    let more : number_of_digits (take (i + 1) digits) ≡ number_of_digits (take i digits) * 10 + (get_or digits i 0 - 48) =
    ap number_of_digits (take_more digits i 0 within) ∙ number-append (take i digits) (get_or digits i 0 ∷ []) ∙ omega arith in
    omega (arith, more)
