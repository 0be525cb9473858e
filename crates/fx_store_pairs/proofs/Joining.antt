-- Joined names: the least equivalence that holds of the pairs.
use Rattle.std.proofs.Common.{◌≡◌, ℕ, Bool, true, ◌==◌, ◌&&◌, ◌⊎◌, List, [], ◌∷◌, ◌++◌, Contains, refl, sym, subst, inl, inr, arith, length, get_or, zero, suc, ◌<◌}
use Rattle.std.specs.List.{list_any}
use Rattle.std.proofs.lemmas.Bool.{eqb-true, eq-eqb, or_cases, or_left, or_right, and_parts, and_from}
use Rattle.std.proofs.lemmas.List.Folds.{Any-from_list_any, list_any-from_Any}
use Rattle.fx_store_pairs.specs.Laws.{IsEquivalence, IsWalk}
use Rattle.fx_store_pairs.specs.Pairs.{joined, is_pair}

none_in_nil : {X : Type 0} (x : X) → Contains [] x → ⊥
none_in_nil x c = omega (arith, c.1)

pub contains_first : {X : Type 0} (x : X) (xs : List X) → Contains (x ∷ xs) x
contains_first x xs = (0, omega arith, refl)

pub contains_later : {X : Type 0} (y : X) (xs : List X) (x : X) → Contains xs x → Contains (y ∷ xs) x
contains_later y xs x c = (suc c.0, omega (arith, c.1), c.2)

pub contains_cases : {X : Type 0} (y : X) (xs : List X) (x : X) → Contains (y ∷ xs) x → (y ≡ x) ⊎ Contains xs x
contains_cases y xs x c = at c.0 c.1 c.2
  where
    at : (k : ℕ) → k < suc (length xs) → get_or (y ∷ xs) k x ≡ x → (y ≡ x) ⊎ Contains xs x
    at zero _ e = inl e
    at (suc k) h e = inr (k, omega arith, e)

-- over all but the first pair, over it, or over it from its other end
joined-cases : (pair : ℕ × ℕ) (pairs : List (ℕ × ℕ)) (one other : ℕ) → joined (pair ∷ pairs) one other ≡ true
    → (joined pairs one other ≡ true)
    ⊎ (((joined pairs one pair.0 ≡ true) × (joined pairs pair.1 other ≡ true))
    ⊎ ((joined pairs one pair.1 ≡ true) × (joined pairs pair.0 other ≡ true)))
unfolding joined
joined-cases pair pairs one other e =
    elim (or_cases _ _ e) [
      | inl kept ↦ inl kept
      | inr over ↦
          elim (or_cases _ _ over) [
            | inl there ↦ inr (inl (and_parts _ _ there))
            | inr back ↦ inr (inr (and_parts _ _ back))
          ]
    ]

joined-kept : (pair : ℕ × ℕ) (pairs : List (ℕ × ℕ)) (one other : ℕ) → joined pairs one other ≡ true → joined (pair ∷ pairs) one other ≡ true
unfolding joined
joined-kept pair pairs one other e = or_left _ _ e

joined-over : (pair : ℕ × ℕ) (pairs : List (ℕ × ℕ)) (one other : ℕ) → joined pairs one pair.0 ≡ true → joined pairs pair.1 other ≡ true
    → joined (pair ∷ pairs) one other ≡ true
unfolding joined
joined-over pair pairs one other e f = or_right _ _ (or_left _ _ (and_from _ _ e f))

joined-back : (pair : ℕ × ℕ) (pairs : List (ℕ × ℕ)) (one other : ℕ) → joined pairs one pair.1 ≡ true → joined pairs pair.0 other ≡ true
    → joined (pair ∷ pairs) one other ≡ true
unfolding joined
joined-back pair pairs one other e f = or_right _ _ (or_right _ _ (and_from _ _ e f))

joined-none : (one other : ℕ) → joined [] one other ≡ true → one ≡ other
unfolding joined
joined-none one other e = eqb-true one other e

pub joined-refl : (pairs : List (ℕ × ℕ)) (name : ℕ) → joined pairs name name ≡ true
unfolding joined
joined-refl [] name = eq-eqb name name refl
joined-refl (pair ∷ pairs) name = joined-kept pair pairs name name (joined-refl pairs name)

pub joined-sym : (pairs : List (ℕ × ℕ)) (one other : ℕ) → joined pairs one other ≡ true → joined pairs other one ≡ true
joined-sym [] one other e = subst (λ n. joined [] n one ≡ true) (joined-none one other e) (joined-refl [] one)
joined-sym (pair ∷ pairs) one other e =
    elim (joined-cases pair pairs one other e) [
      | inl kept ↦ joined-kept pair pairs other one (joined-sym pairs one other kept)
      | inr (inl there) ↦
          joined-back pair pairs other one (joined-sym pairs pair.1 other there.1) (joined-sym pairs one pair.0 there.0)
      | inr (inr back) ↦
          joined-over pair pairs other one (joined-sym pairs pair.0 other back.1) (joined-sym pairs one pair.1 back.0)
    ]

pub joined-trans : (pairs : List (ℕ × ℕ)) (one middle other : ℕ) → joined pairs one middle ≡ true → joined pairs middle other ≡ true
    → joined pairs one other ≡ true
joined-trans [] one middle other e f = subst (λ n. joined [] n other ≡ true) (sym (joined-none one middle e)) f
joined-trans (pair ∷ pairs) one middle other e f =
    let onwards : (a b c : ℕ) → joined pairs a b ≡ true → joined pairs b c ≡ true → joined pairs a c ≡ true = joined-trans pairs in
    elim (joined-cases pair pairs one middle e) [
      | inl kept ↦
          elim (joined-cases pair pairs middle other f) [
            | inl also ↦ joined-kept pair pairs one other (onwards one middle other kept also)
            | inr (inl there) ↦ joined-over pair pairs one other (onwards one middle pair.0 kept there.0) there.1
            | inr (inr back) ↦ joined-back pair pairs one other (onwards one middle pair.1 kept back.0) back.1
          ]
      | inr (inl over) ↦
          elim (joined-cases pair pairs middle other f) [
            | inl also ↦ joined-over pair pairs one other over.0 (onwards pair.1 middle other over.1 also)
            | inr (inl there) ↦ joined-over pair pairs one other over.0 there.1
            | inr (inr back) ↦ joined-kept pair pairs one other (onwards one pair.0 other over.0 back.1)
          ]
      | inr (inr under) ↦
          elim (joined-cases pair pairs middle other f) [
            | inl also ↦ joined-back pair pairs one other under.0 (onwards pair.0 middle other under.1 also)
            | inr (inl there) ↦ joined-kept pair pairs one other (onwards one pair.1 other under.0 there.1)
            | inr (inr back) ↦ joined-back pair pairs one other under.0 back.1
          ]
    ]

pub joined-equivalence : (pairs : List (ℕ × ℕ)) → IsEquivalence (λ (one other : ℕ). joined pairs one other ≡ true)
joined-equivalence pairs = record { itself = joined-refl pairs; turned = joined-sym pairs; onwards = joined-trans pairs }

pub joined-pair : (pairs : List (ℕ × ℕ)) (pair : ℕ × ℕ) → Contains pairs pair → joined pairs pair.0 pair.1 ≡ true
joined-pair [] pair c = absurd (none_in_nil pair c)
joined-pair (first ∷ pairs) pair c =
    elim (contains_cases first pairs pair c) [
      | inl here ↦
          subst (λ (p : ℕ × ℕ). joined (first ∷ pairs) p.0 p.1 ≡ true) here
          (joined-over first pairs first.0 first.1 (joined-refl pairs first.0) (joined-refl pairs first.1))
      | inr later ↦ joined-kept first pairs pair.0 pair.1 (joined-pair pairs pair later)
    ]

-- every equivalence that holds of the pairs holds of joined names
pub joined-least : (R : ℕ → ℕ → Type 0) (pairs : List (ℕ × ℕ)) → IsEquivalence R
    → ((pair : ℕ × ℕ) → Contains pairs pair → R pair.0 pair.1)
    → (one other : ℕ) → joined pairs one other ≡ true → R one other
joined-least R [] same each one other e = subst (R one) (joined-none one other e) (same.itself one)
joined-least R (pair ∷ pairs) same each one other e =
    let rest : (a b : ℕ) → joined pairs a b ≡ true → R a b =
    joined-least R pairs same (λ p c. each p (contains_later pair pairs p c)) in
    let here : R pair.0 pair.1 = each pair (contains_first pair pairs) in
    elim (joined-cases pair pairs one other e) [
      | inl kept ↦ rest one other kept
      | inr (inl there) ↦
          same.onwards one pair.0 other (rest one pair.0 there.0)
          (same.onwards pair.0 pair.1 other here (rest pair.1 other there.1))
      | inr (inr back) ↦
          same.onwards one pair.1 other (rest one pair.1 back.0)
          (same.onwards pair.1 pair.0 other (same.turned pair.0 pair.1 here) (rest pair.0 other back.1))
    ]

-- a pair of the two names, in either order, among the pairs
pub joined-step : (pairs : List (ℕ × ℕ)) (one other : ℕ) → list_any (is_pair one other) pairs ≡ true → joined pairs one other ≡ true
joined-step pairs one other e =
    let found = Any-from_list_any (is_pair one other) pairs e in
    let pair : ℕ × ℕ = found.1 in
    let linked : joined pairs pair.0 pair.1 ≡ true = joined-pair pairs pair (found.0, found.2, found.3) in
    elim (or_cases _ _ found.4) [
      | inl there ↦
          let ends = and_parts _ _ there in
          subst (λ n. joined pairs n other ≡ true) (eqb-true pair.0 one ends.0)
          (subst (λ n. joined pairs pair.0 n ≡ true) (eqb-true pair.1 other ends.1) linked)
      | inr back ↦
          let ends = and_parts _ _ back in
          joined-sym pairs other one
          (subst (λ n. joined pairs n one ≡ true) (eqb-true pair.0 other ends.0)
          (subst (λ n. joined pairs pair.0 n ≡ true) (eqb-true pair.1 one ends.1) linked))
    ]

pub walk-joined : (pairs : List (ℕ × ℕ)) (one : ℕ) (names : List ℕ) (other : ℕ) → IsWalk pairs one names other → joined pairs one other ≡ true
walk-joined pairs one [] other e = subst (λ n. joined pairs one n ≡ true) e (joined-refl pairs one)
walk-joined pairs one (next ∷ names) other walk =
    joined-trans pairs one next other (joined-step pairs one next walk.0) (walk-joined pairs next names other walk.1)

walk-append : (pairs : List (ℕ × ℕ)) (one : ℕ) (names : List ℕ) (middle : ℕ) (more : List ℕ) (other : ℕ)
    → IsWalk pairs one names middle → IsWalk pairs middle more other → IsWalk pairs one (names ++ more) other
walk-append pairs one [] middle more other e walk = subst (λ n. IsWalk pairs n more other) (sym e) walk
walk-append pairs one (next ∷ names) middle more other first walk =
    (first.0, walk-append pairs next names middle more other first.1 walk)

pair-turned : (one other : ℕ) (pair : ℕ × ℕ) → is_pair one other pair ≡ true → is_pair other one pair ≡ true
pair-turned one other pair e =
    let there : Bool = (pair.0 == one) && (pair.1 == other) in
    let back : Bool = (pair.0 == other) && (pair.1 == one) in
    elim (or_cases there back e) [
      | inl h ↦ or_right back there h
      | inr h ↦ or_left back there h
    ]

step-turned : (pairs : List (ℕ × ℕ)) (one other : ℕ) → list_any (is_pair one other) pairs ≡ true → list_any (is_pair other one) pairs ≡ true
step-turned pairs one other e =
    let found = Any-from_list_any (is_pair one other) pairs e in
    list_any-from_Any (is_pair other one) pairs (found.0, found.1, found.2, found.3, pair-turned one other found.1 found.4)

-- the walk back is found from its end
walk-back : (pairs : List (ℕ × ℕ)) (one : ℕ) (names : List ℕ) (other : ℕ) → IsWalk pairs one names other
    → (back : List ℕ) × IsWalk pairs other back one
walk-back pairs one [] other e = ([], sym e)
walk-back pairs one (next ∷ names) other walk =
    let rest = walk-back pairs next names other walk.1 in (
      rest.0 ++ one ∷ [],
      walk-append pairs other rest.0 next (one ∷ []) one rest.1 (step-turned pairs one next walk.0, refl),
    )

walks-equivalence : (pairs : List (ℕ × ℕ)) → IsEquivalence (λ (one other : ℕ). (names : List ℕ) × IsWalk pairs one names other)
walks-equivalence pairs = record {
  itself = λ name. ([], refl);
  turned = λ one other walk. walk-back pairs one walk.0 other walk.1;
  onwards = λ one middle other first walk.
      (first.0 ++ walk.0, walk-append pairs one first.0 middle walk.0 other first.1 walk.1);
}

pub joined-walk : (pairs : List (ℕ × ℕ)) (one other : ℕ) → joined pairs one other ≡ true → (names : List ℕ) × IsWalk pairs one names other
joined-walk pairs =
    joined-least (λ (one other : ℕ). (names : List ℕ) × IsWalk pairs one names other) pairs (walks-equivalence pairs)
    (λ pair c. (
      pair.1 ∷ [],
      (
        list_any-from_Any (is_pair pair.0 pair.1) pairs
            (c.0, pair, c.1, c.2, or_left _ _ (and_from _ _ (eq-eqb pair.0 pair.0 refl) (eq-eqb pair.1 pair.1 refl))),
        refl,
      ),
    ))
