-- How many places an update works on.
use Rattle.std.proofs.Common.{refl, sym, ap, ◌∙◌, ◌≡◌, ℕ, zero, suc, ◌+◌, ◌<◌, ◌≤◌, Bool, true, false, ◌||◌, ◌==◌, cond, List, [], ◌∷◌, length, inl, inr, arith}
use Rattle.std.proofs.lemmas.Bool.{cases_Bool, eqb-true, true≢false}
use Rattle.fx_layout_sweeps.specs.Sweeps.{tally}
use Rattle.fx_layout_sweeps.proofs.Tallies.{tally_more}
use Rattle.fx_layout.specs.Updates.{is_listed}

abbrev one_if : Bool → ℕ
one_if b = cond b 1 0

next : (test : ℕ → Bool) (n : ℕ) → tally test (suc n) ≡ tally test n + one_if (test n)
next test n = let one : suc n ≡ n + 1 = omega arith in ap (tally test) one ∙ tally_more test n

or_most : (a b c : Bool) → (a ≡ true → (b || c) ≡ true) → one_if a ≤ one_if b + one_if c
or_most false b c h = omega arith
or_most true true c h = omega arith
or_most true false true h = omega arith
or_most true false false h = absurd (true≢false (sym (h refl)))

-- what passes one of two tests is counted by one of them
pub tally_or : (test one other : ℕ → Bool) (n : ℕ)
    → ((p : ℕ) → p < n → test p ≡ true → (one p || other p) ≡ true) → tally test n ≤ tally one n + tally other n
tally_or test one other zero h = omega arith
tally_or test one other (suc n) h =
    let rest = tally_or test one other n (λ p less. h p (omega (arith, less))) in
    let here = or_most (test n) (one n) (other n) (h n (omega arith)) in
    omega (arith, rest, here, next test n, next one n, next other n)

none_before : (x n : ℕ) → n ≤ x → tally (λ p. x == p) n ≡ 0
none_before x zero h = refl
none_before x (suc n) h =
    elim (cases_Bool (x == n)) [
      | inl hit ↦ absurd (omega (arith, h, eqb-true x n hit))
      | inr miss ↦ omega (arith, next (λ p. x == p) n, none_before x n (omega (arith, h)), ap one_if miss)
    ]

one_most : (x n : ℕ) → tally (λ p. x == p) n ≤ 1
one_most x zero = omega arith
one_most x (suc n) = elim (cases_Bool (x == n)) [
  | inl hit ↦ (
      let at : x ≡ n = eqb-true x n hit in
      omega (arith, next (λ p. x == p) n, none_before x n (omega (arith, at)), ap one_if hit))
  | inr miss ↦ omega (arith, next (λ p. x == p) n, one_most x n, ap one_if miss)
]

-- no more places are listed than the list names
pub few_listed : (places : List ℕ) (n : ℕ) → tally (is_listed places) n ≤ length places
few_listed [] n = none_of n
  where
    none_of : (m : ℕ) → tally (is_listed []) m ≤ 0
    none_of zero = omega arith
    none_of (suc m) = omega (arith, next (is_listed []) m, none_of m)
few_listed (x ∷ xs) n =
    let both = tally_or (is_listed (x ∷ xs)) (λ p. x == p) (is_listed xs) n (λ p less e. e) in
    omega (arith, both, one_most x n, few_listed xs n)
