-- The order of rules by sheet and rule, as tests tell it.
use Rattle.std.proofs.Common.{◌≡◌, ℕ, ◌<◌, ◌⊎◌, inl, inr, true, false, ◌&&◌, ◌||◌, ltb, eqb, not, arith}
use Rattle.std.proofs.lemmas.Bool.Decides.{nat_tests}

-- by the first number, then by the second
abbrev pub Precedes : ℕ → ℕ → ℕ → ℕ → Type 0
Precedes a b c d = (a < c) ⊎ ((a ≡ c) × (b < d))

pub before-true : (a b c d : ℕ) → Precedes a b c d → (ltb a c || (eqb a c && ltb b d)) ≡ true
before-true a b c d (inl h) = grind (arith, nat_tests)
before-true a b c d (inr h) = grind (arith, nat_tests)

pub before-false : (a b c d : ℕ) → Precedes a b c d → (ltb c a || (eqb c a && ltb d b)) ≡ false
before-false a b c d (inl h) = grind (arith, nat_tests)
before-false a b c d (inr h) = grind (arith, nat_tests)

pub before-itself : (a b : ℕ) → (ltb a a || (eqb a a && ltb b b)) ≡ false
before-itself a b = grind (arith, nat_tests)

pub same-itself : (a b : ℕ) → (eqb a a && eqb b b) ≡ true
same-itself a b = grind (arith, nat_tests)

pub same-before : (a b c d : ℕ) → Precedes a b c d → (eqb a c && eqb b d) ≡ false
same-before a b c d (inl h) = grind (arith, nat_tests)
same-before a b c d (inr h) = grind (arith, nat_tests)

pub same-behind : (a b c d : ℕ) → Precedes a b c d → (eqb c a && eqb d b) ≡ false
same-behind a b c d (inl h) = grind (arith, nat_tests)
same-behind a b c d (inr h) = grind (arith, nat_tests)

-- what stands before a rule stands before the same rule
pub before-same : (a b c d e f : ℕ) → (ltb a c || (eqb a c && ltb b d)) ≡ true → (eqb c e && eqb d f) ≡ true → (ltb a e || (eqb a e && ltb b f)) ≡ true
before-same a b c d e f before same = grind (arith, nat_tests)

pub before-later : (a b c d e f : ℕ) → (ltb a c || (eqb a c && ltb b d)) ≡ true → (ltb c e || (eqb c e && ltb d f)) ≡ true
    → (ltb a e || (eqb a e && ltb b f)) ≡ true
before-later a b c d e f before then = grind (arith, nat_tests)

pub before-other : (a b c d : ℕ) → (ltb c a || (eqb c a && ltb d b)) ≡ false → (eqb a c && eqb b d) ≡ false → (ltb a c || (eqb a c && ltb b d)) ≡ true
before-other a b c d behind other = grind (arith, nat_tests)

pub before-none : (a b c d : ℕ) → (eqb a c && eqb b d) ≡ true → (ltb a c || (eqb a c && ltb b d)) ≡ false
before-none a b c d same = grind (arith, nat_tests)

-- what does not stand before a rule does not stand before the same rule
pub behind-same : (a b c d e f : ℕ) → (ltb a c || (eqb a c && ltb b d)) ≡ false → (eqb e c && eqb f d) ≡ true → (ltb a e || (eqb a e && ltb b f)) ≡ false
behind-same a b c d e f behind same = grind (arith, nat_tests)

-- two rules of which neither stands before the other are one
pub same-ties : (a b c d : ℕ) → (not (ltb a c || (eqb a c && ltb b d)) && not (ltb c a || (eqb c a && ltb d b))) ≡ (eqb c a && eqb d b)
same-ties a b c d = grind (arith, nat_tests)
