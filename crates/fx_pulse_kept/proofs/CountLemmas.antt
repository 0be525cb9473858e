-- Places that pass a test are no more than those that pass another.
use Rattle.std.proofs.Common.{refl, sym, ap, ◌∙◌, ◌≡◌, ℕ, zero, suc, ◌+◌, ◌<◌, ◌≤◌, ◌||◌, Bool, true, false, cond, List, [], ◌∷◌, arith}
use Rattle.std.specs.List.{list_any}
use Rattle.std.proofs.lemmas.Bool.{true≢false}
use Rattle.fx_layout_sweeps.specs.Sweeps.{tally}
use Rattle.fx_layout_sweeps.proofs.Tallies.{tally_more}

next : (test : ℕ → Bool) (n : ℕ) → tally test (suc n) ≡ tally test n + cond (test n) 1 0
next test n = let one : suc n ≡ n + 1 = omega arith in ap (tally test) one ∙ tally_more test n

one_less : (a b : Bool) → (a ≡ true → b ≡ true) → cond a 1 0 ≤ cond b 1 0
one_less false b goes = omega arith
one_less true true goes = omega arith
one_less true false goes = absurd (true≢false (sym (goes refl)))

pub tally_less : (test other : ℕ → Bool) (n : ℕ) → ((p : ℕ) → p < n → test p ≡ true → other p ≡ true)
    → tally test n ≤ tally other n
tally_less test other zero goes = omega arith
tally_less test other (suc n) goes =
    let rest = tally_less test other n (λ p less. goes p (omega (arith, less))) in
    let here = one_less (test n) (other n) (goes n (omega arith)) in
    omega (arith, rest, here, next test n, next other n)

pub tally_none : (test : ℕ → Bool) (n : ℕ) → ((p : ℕ) → p < n → test p ≡ false) → tally test n ≡ 0
tally_none test zero none = refl
tally_none test (suc n) none =
    let rest = tally_none test n (λ p less. none p (omega (arith, less))) in
    let here : cond {A = ℕ} (test n) 1 0 ≡ 0 = ap (λ b. cond {A = ℕ} b 1 0) (none n (omega arith)) in
    omega (arith, rest, here, next test n)

pub any_none : (test : ℕ → Bool) → ((k : ℕ) → test k ≡ false) → (xs : List ℕ) → list_any test xs ≡ false
any_none test none [] = refl
any_none test none (x ∷ xs) = ap (λ b. b || list_any test xs) (none x) ∙ any_none test none xs
