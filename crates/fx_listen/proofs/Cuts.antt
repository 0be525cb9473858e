-- Filters one after another, and lists that a test cuts in two.
use Rattle.std.proofs.Common.{◌≡◌, ℕ, ◌+◌, zero, suc, ◌<◌, ◌≤◌, Bool, true, false, not, ◌&&◌, ◌||◌, cond, ltb, List, [], ◌∷◌, ◌++◌, length, get_or, take, drop, filter, All, AllPairs, Contains, position, Option, Some, None, refl, sym, ◌∙◌, ap, inl, inr, arith}
use Rattle.std.specs.List.{find, list_any, position_or_len}
use Rattle.std.specs.List.Sorted.{IsPartitionPoint}
use Rattle.std.proofs.lemmas.Bool.{cases_Bool, cases_lt, lt-ltb, le-ltb}
use Rattle.std.proofs.lemmas.List.Elements.{All-append, All-head, All-tail, filter_agree}
use Rattle.std.proofs.lemmas.List.Kept.{AllPairs-cons}

ltb-suc : (a b : ℕ) → ltb (1 + a) (suc b) ≡ ltb a b
ltb-suc a b =
    elim (cases_lt a b) [
      | inl less ↦ lt-ltb (1 + a) (suc b) (omega (arith, less)) ∙ sym (lt-ltb a b less)
      | inr more ↦ le-ltb (1 + a) (suc b) (omega (arith, more)) ∙ sym (le-ltb a b more)
    ]

pub and-comm : (a b : Bool) → (a && b) ≡ (b && a)
and-comm true true = refl
and-comm true false = refl
and-comm false true = refl
and-comm false false = refl

module _ {X : Type 0} where
  -- a list contains what its rest contains
  pub Contains-later : (x : X) (xs : List X) (y : X) → Contains xs y → Contains (x ∷ xs) y
  Contains-later x xs y there = (suc there.0, omega (arith, there.1), there.2)

  pub AllPairs-tail : (R : X → X → Type 0) (x : X) (xs : List X) → AllPairs R (x ∷ xs) → AllPairs R xs
  AllPairs-tail R x xs pairs i j d order within = pairs (suc i) (suc j) d (omega (arith, order)) (omega (arith, within))

  pub AllPairs-head : (R : X → X → Type 0) (x : X) (xs : List X) → AllPairs R (x ∷ xs) → All (R x) xs
  AllPairs-head R x xs pairs k d below = pairs 0 (suc k) d (omega arith) (omega (arith, below))

  -- all pass
  pub filter-all : (p : X → Bool) (xs : List X) → ((k : ℕ) (d : X) → k < length xs → p (get_or xs k d) ≡ true) → filter p xs ≡ xs
  filter-all p [] all = refl
  filter-all p (x ∷ xs) all =
      rw (all 0 x (omega arith), filter-all p xs (λ k d below. all (suc k) d (omega (arith, below)))) refl

  -- none passes
  pub filter-none : (p : X → Bool) (xs : List X) → ((k : ℕ) (d : X) → k < length xs → p (get_or xs k d) ≡ false) → filter p xs ≡ []
  filter-none p [] none = refl
  filter-none p (x ∷ xs) none =
      rw (none 0 x (omega arith)) (filter-none p xs (λ k d below. none (suc k) d (omega (arith, below))))

  -- two filters are one
  pub filter-filter : (p q : X → Bool) (xs : List X) → filter p (filter q xs) ≡ filter (λ x. q x && p x) xs
  filter-filter p q [] = refl
  filter-filter p q (x ∷ xs) = by_test (q x) (filter-filter p q xs)
    where
      by_test : (b : Bool) → filter p (filter q xs) ≡ filter (λ y. q y && p y) xs
          → filter p (cond b (x ∷ filter q xs) (filter q xs))
          ≡ cond (b && p x) (x ∷ filter (λ y. q y && p y) xs) (filter (λ y. q y && p y) xs)
      by_test true rest = ap (λ (l : List X). cond (p x) (x ∷ l) l) rest
      by_test false rest = rest

  -- filters in the other order
  pub filter-swap : (p q : X → Bool) (xs : List X) → filter p (filter q xs) ≡ filter q (filter p xs)
  filter-swap p q xs =
      filter-filter p q xs
      ∙ filter_agree (λ x. q x && p x) (λ x. p x && q x) (λ x. and-comm (q x) (p x)) xs
      ∙ sym (filter-filter q p xs)

  -- some element of a filtered list passes
  pub list_any-filter : (p q : X → Bool) (xs : List X) → list_any p (filter q xs) ≡ list_any (λ x. q x && p x) xs
  list_any-filter p q [] = refl
  list_any-filter p q (x ∷ xs) = by_test (q x) (list_any-filter p q xs)
    where
      by_test : (b : Bool) → list_any p (filter q xs) ≡ list_any (λ y. q y && p y) xs
          → list_any p (cond b (x ∷ filter q xs) (filter q xs)) ≡ ((b && p x) || list_any (λ y. q y && p y) xs)
      by_test true rest = ap (λ (b : Bool). p x || b) rest
      by_test false rest = rest

  -- the first that passes of a filtered list
  pub find-filter : (p q : X → Bool) (xs : List X) → find p (filter q xs) ≡ find (λ x. q x && p x) xs
  find-filter p q [] = refl
  find-filter p q (x ∷ xs) = by_test (q x) (find-filter p q xs)
    where
      by_test : (b : Bool) → find p (filter q xs) ≡ find (λ y. q y && p y) xs
          → find p (cond b (x ∷ filter q xs) (filter q xs)) ≡ cond (b && p x) (Some x) (find (λ y. q y && p y) xs)
      by_test true rest = ap (λ (o : Option X). cond (p x) (Some x) o) rest
      by_test false rest = rest

  pub find-same : (p q : X → Bool) → ((x : X) → p x ≡ q x) → (xs : List X) → find p xs ≡ find q xs
  find-same p q same [] = refl
  find-same p q same (x ∷ xs) = rw (same x, find-same p q same xs) refl

  pub list_any-same : (p q : X → Bool) → ((x : X) → p x ≡ q x) → (xs : List X) → list_any p xs ≡ list_any q xs
  list_any-same p q same [] = refl
  list_any-same p q same (x ∷ xs) = rw (same x, list_any-same p q same xs) refl

  -- tests that agree at each element keep the same ones
  pub filter-same : (p q : X → Bool) (xs : List X) → ((x : X) → Contains xs x → p x ≡ q x) → filter p xs ≡ filter q xs
  filter-same p q [] same = refl
  filter-same p q (x ∷ xs) same =
      rw (same x (0, omega arith, refl), filter-same p q xs (λ y there. same y (Contains-later x xs y there))) refl

  -- where the places below one pass and the others don't, the place cuts the list
  pub parts_at_point : (p q : X → Bool) → ((x : X) → q x ≡ not (p x)) → (xs : List X) (i : ℕ) → i ≤ length xs
      → IsPartitionPoint (λ y. p y ≡ true) (λ y. p y ≡ false) xs i
      → (take i xs ≡ filter p xs) × (drop i xs ≡ filter q xs)
  parts_at_point p q other [] zero bound point = (refl, refl)
  parts_at_point p q other [] (suc i) bound point = absurd (omega (arith, bound))
  parts_at_point p q other (x ∷ xs) zero bound point = (
    sym (filter-none p (x ∷ xs) (λ k d below. point.1 k d (omega arith) below)),
    sym (filter-all q (x ∷ xs) (λ k d below. other _ ∙ ap not (point.1 k d (omega arith) below))),
  )
  parts_at_point p q other (x ∷ xs) (suc i) bound point =
      let here : p x ≡ true = point.0 0 x (omega arith) (omega arith) in
      let gone : q x ≡ false = other x ∙ ap not here in
      let rest : (take i xs ≡ filter p xs) × (drop i xs ≡ filter q xs) =
      parts_at_point p q other xs i (omega (arith, bound))
      (λ k d low high. point.0 (suc k) d (omega arith) (omega (arith, high)), λ k d low high. point.1 (suc k) d (omega (arith, low)) (omega (arith, high))) in
      (rw here (ap (λ (l : List X). x ∷ l) rest.0), rw gone rest.1)

  -- some element passes where the first place to pass is within the list
  any_by_place : (p : X → Bool) (xs : List X) → list_any p xs ≡ ltb (position_or_len p xs) (length xs)
  any_by_place p [] = refl
  any_by_place p (x ∷ xs) =
      elim (cases_Bool (p x)) [
        | inl passes ↦ rw passes (sym (lt-ltb 0 (suc (length xs)) (omega arith)))
        | inr fails ↦ rw fails (any_by_place p xs ∙ sym (ltb-suc (position_or_len p xs) (length xs)))
      ]

  pub list_any-placeless : (p : X → Bool) (xs : List X) → position p xs ≡ None → list_any p xs ≡ false
  list_any-placeless p xs none =
      elim (cases_Bool (list_any p xs)) [
        | inl some ↦
            let within : ltb (position_or_len p xs) (length xs) ≡ true = sym (any_by_place p xs) ∙ some in
            let placed : position p xs ≡ Some (position_or_len p xs) = rw within refl in
            cc
        | inr fails ↦ fails
      ]

  -- what holds of the pairs of two lists, and from one to the other, holds of the pairs of both
  pub AllPairs-append : (R : X → X → Type 0) (xs ys : List X)
      → AllPairs R xs → AllPairs R ys → All (λ x. All (R x) ys) xs → AllPairs R (xs ++ ys)
  AllPairs-append R [] ys first second across = second
  AllPairs-append R (x ∷ xs) ys first second across =
      AllPairs-cons R x (xs ++ ys)
      (All-append (R x) xs ys
      (AllPairs-head R x xs first) (All-head (λ y. All (R y) ys) x xs across))
      (AllPairs-append R xs ys (AllPairs-tail R x xs first) second (All-tail (λ y. All (R y) ys) x xs across))
