-- How many nodes an update styles.
use Rattle.std.proofs.Common.{◌≡◌, ◌<◌, ◌≤◌, ◌+◌, ℕ, zero, suc, Bool, true, false, ◌||◌, eqb, List, [], ◌∷◌, length, refl, ap, subst, arith, inl, inr}
use Rattle.std.specs.Prelude.{is_none}
use Rattle.std.proofs.lemmas.Bool.{cases_Bool, cases_eq, eqb-true}
use Rattle.fx_kinds.specs.declared.facts.StyleFacts.{StyleFacts}
use Rattle.fx_style.specs.Kept.{Kept, is_among}
use Rattle.fx_style.specs.Rules.{AreKept, kept_of, needs, ticks, worked}

pub worked_more : (test : ℕ → Bool) (n next : ℕ) → next ≡ n + 1 → worked test n + ticks (test n) ≡ worked test next
worked_more test n next e =
    subst (λ (m : ℕ). worked test n + ticks (test n) ≡ worked test m)
    (let h : suc n ≡ next = omega (arith, e) in h) refl

worked_none : (n : ℕ) → worked (is_among []) n ≡ 0
worked_none zero = refl
worked_none (suc n) = omega (arith, worked_none n)

ticks_le : (b : Bool) → ticks b ≤ 1
ticks_le true = omega arith
ticks_le false = omega arith

ticks_or : (a b : Bool) → ticks (a || b) ≤ ticks a + ticks b
ticks_or true b = omega arith
ticks_or false b = omega arith

worked_or : (p q : ℕ → Bool) (n : ℕ) → worked (λ k. p k || q k) n ≤ worked p n + worked q n
worked_or p q zero = omega arith
worked_or p q (suc n) = omega (arith, worked_or p q n, ticks_or (p n) (q n))

neq-eqb : (a b : ℕ) → (a ≡ b → ⊥) → eqb a b ≡ false
neq-eqb a b differ =
    elim (cases_Bool (eqb a b)) [ inl same ↦ absurd (differ (eqb-true a b same)) | inr other ↦ other ]

worked_below : (r n : ℕ) → n ≤ r → worked (λ k. eqb r k) n ≡ 0
worked_below r zero below = refl
worked_below r (suc n) below =
    let off : eqb r n ≡ false = neq-eqb r n (λ e. omega arith) in
    let rest : worked (λ k. eqb r k) n ≡ 0 = worked_below r n (omega arith) in
    let here : ticks (eqb r n) ≡ 0 = ap ticks off in
    omega arith

worked_one : (r n : ℕ) → worked (λ k. eqb r k) n ≤ 1
worked_one r zero = omega arith
worked_one r (suc n) = elim (cases_eq r n) [
  | inl same ↦ let rest : worked (λ k. eqb r k) n ≡ 0 = worked_below r n (omega arith) in let h : ticks (eqb r n) ≤ 1 =
      ticks_le (eqb r n) in omega arith
  | inr other ↦ let off : ticks (eqb r n) ≡ 0 = ap ticks (neq-eqb r n other) in let h : worked (λ k. eqb r k) n ≤ 1 =
      worked_one r n in omega arith
]

-- each entry of a list lists one place at most
worked_listed : (restyle : List ℕ) (n : ℕ) → worked (is_among restyle) n ≤ length restyle
worked_listed [] n = omega (arith, worked_none n)
worked_listed (r ∷ rs) n = omega (arith, worked_or (λ k. eqb r k) (is_among rs) n, worked_one r n, worked_listed rs n)

pub worked_same : (p q : ℕ → Bool) (n : ℕ) → ((k : ℕ) → k < n → p k ≡ q k) → worked p n ≡ worked q n
worked_same p q zero same = refl
worked_same p q (suc n) same =
    let rest : worked p n ≡ worked q n = worked_same p q n (λ k below. same k (omega arith)) in
    let here : ticks (p n) ≡ ticks (q n) = ap ticks (same n (omega arith)) in
    omega arith

-- where something is kept of every node that isn't listed, as many nodes are styled as the list has places at most
pub few_worked : (facts : List StyleFacts) (restyle : List ℕ) (kept : Kept) → AreKept facts restyle kept
    → worked (needs restyle (kept_of kept facts)) (length facts) ≤ length restyle
few_worked facts restyle kept all =
    let same : worked (needs restyle (kept_of kept facts)) (length facts) ≡ worked (is_among restyle) (length facts) =
    worked_same (needs restyle (kept_of kept facts)) (is_among restyle) (length facts)
    (λ k below. needed (is_among restyle k) (is_none (kept_of kept facts k)) (all k below)) in
    omega (arith, worked_listed restyle (length facts))
  where
    needed : (b d : Bool) → (b ≡ false → d ≡ false) → (b || d) ≡ b
    needed true d h = refl
    needed false d h = h refl
