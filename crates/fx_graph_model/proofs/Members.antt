-- What stands in a list, tests over a list, and how many pass one.
use Rattle.std.proofs.Common.{◌≡◌, ℕ, zero, suc, ◌+◌, ◌<◌, ◌≤◌, Bool, true, false, cond, ◌==◌, List, [], ◌∷◌, length, map, filter, get_or, arith, refl, sym, ◌∙◌, ap, subst, inl, inr, ◌⊎◌}
use Rattle.std.specs.List.{Contains, list_any, range_with_len}
use Rattle.std.proofs.lemmas.Bool.{cases_Bool, both_ways, eqb-true, eq-eqb}
use Rattle.std.proofs.lemmas.List.Folds.{Any-from_list_any, list_any-from_Any}
use Rattle.std.proofs.lemmas.List.FromFn.{length-range_with_len, get_or-range_with_len}
use Rattle.fx_graph_model.specs.Unread.{tally}

pub none_in_nil : {X : Type 0} (x : X) → Contains [] x → ⊥
none_in_nil x c = omega (arith, c.1)

pub contains_first : {X : Type 0} (x : X) (xs : List X) → Contains (x ∷ xs) x
contains_first x xs = (0, omega arith, refl)

pub contains_later : {X : Type 0} (y : X) (xs : List X) (x : X) → Contains xs x → Contains (y ∷ xs) x
contains_later y xs x c = (suc c.0, omega (arith, c.1), c.2)

pub contains_cases : {X : Type 0} (y : X) (xs : List X) (x : X) → Contains (y ∷ xs) x → (y ≡ x) ⊎ Contains xs x
contains_cases y xs x c = at c.0 c.1 c.2
  where
    at : (k : ℕ) → k < suc (length xs) → get_or (y ∷ xs) k x ≡ x → (y ≡ x) ⊎ Contains xs x
    at zero _ e = inl e
    at (suc k) h e = inr (k, omega arith, e)

pub any_from : {X : Type 0} (p : X → Bool) (xs : List X) → list_any p xs ≡ true → (x : X) × Contains xs x × (p x ≡ true)
any_from p xs e =
    let found = Any-from_list_any p xs e in
    (found.1, (found.0, found.2, found.3), found.4)

pub any_at : {X : Type 0} (p : X → Bool) (xs : List X) (x : X) → Contains xs x → p x ≡ true → list_any p xs ≡ true
any_at p xs x c e = list_any-from_Any p xs (c.0, x, c.1, c.2, e)

pub map_same : {X Y : Type 0} (f g : X → Y) (xs : List X) → ((x : X) → Contains xs x → f x ≡ g x) → map f xs ≡ map g xs
map_same f g [] same = refl
map_same {X} {Y} f g (x ∷ xs) same =
    ap (λ (y : Y). y ∷ map f xs) (same x (contains_first x xs))
    ∙ ap (λ (ys : List Y). g x ∷ ys) (map_same f g xs (λ z c. same z (contains_later x xs z c)))

pub in_range : (n k : ℕ) → k < n → Contains (range_with_len 0 n) k
in_range n k h =
    (k, rw (length-range_with_len 0 n) h, get_or-range_with_len 0 n k k h ∙ omega arith)

pub below_range : (n k : ℕ) → Contains (range_with_len 0 n) k → k < n
below_range n k c =
    let long : length (range_with_len 0 n) ≡ n = length-range_with_len 0 n in
    let small : c.0 < n = omega (arith, c.1) in
    let e : 0 + c.0 ≡ k = sym (get_or-range_with_len 0 n c.0 k small) ∙ c.2 in
    omega arith

pub tally_same : {X : Type 0} (p q : X → Bool) (xs : List X) → ((x : X) → Contains xs x → p x ≡ q x) → tally p xs ≡ tally q xs
tally_same p q [] same = refl
tally_same p q (x ∷ xs) same =
    ap (λ (b : Bool). cond b 1 0 + tally p xs) (same x (contains_first x xs))
    ∙ ap (λ n. cond (q x) 1 0 + n) (tally_same p q xs (λ z c. same z (contains_later x xs z c)))

pub tally_most : {X : Type 0} (p : X → Bool) (xs : List X) → tally p xs ≤ length xs
tally_most p [] = omega arith
tally_most p (x ∷ xs) =
    let rest : tally p xs ≤ length xs = tally_most p xs in
    elim (cases_Bool (p x)) [
      | inl holds ↦ rw holds (omega arith)
      | inr fails ↦ rw fails (omega arith)
    ]

pub tally_none : {X : Type 0} (p : X → Bool) (xs : List X) → ((x : X) → Contains xs x → p x ≡ false) → tally p xs ≡ 0
tally_none p [] none = refl
tally_none p (x ∷ xs) none =
    let rest : tally p xs ≡ 0 = tally_none p xs (λ z c. none z (contains_later x xs z c)) in
    let fails : p x ≡ false = none x (contains_first x xs) in
    rw fails (omega arith)

-- what passes the one test passes the other
pub tally_le : {X : Type 0} (p q : X → Bool) (xs : List X) → ((x : X) → Contains xs x → p x ≡ true → q x ≡ true)
    → tally p xs ≤ tally q xs
tally_le p q [] weaker = omega arith
tally_le p q (x ∷ xs) weaker =
    let rest : tally p xs ≤ tally q xs = tally_le p q xs (λ z c. weaker z (contains_later x xs z c)) in
    elim (cases_Bool (p x)) [
      | inl holds ↦ let also : q x ≡ true = weaker x (contains_first x xs) holds in rw (holds, also) (omega arith)
      | inr fails ↦ rw fails (omega arith)
    ]

-- and one element passes the other alone
pub tally_less : {X : Type 0} (p q : X → Bool) (xs : List X) (x : X) → ((y : X) → Contains xs y → p y ≡ true → q y ≡ true)
    → Contains xs x → p x ≡ false → q x ≡ true → tally p xs < tally q xs
tally_less p q [] x weaker c fails holds = absurd (none_in_nil x c)
tally_less p q (y ∷ ys) x weaker c fails holds =
    elim (contains_cases y ys x c) [
      | inl here ↦
          let rest : tally p ys ≤ tally q ys = tally_le p q ys (λ z d. weaker z (contains_later y ys z d)) in
          let fails_here : p y ≡ false = ap p here ∙ fails in
          let holds_here : q y ≡ true = ap q here ∙ holds in
          rw (fails_here, holds_here) (omega arith)
      | inr later ↦
          let rest : tally p ys < tally q ys = tally_less p q ys x (λ z d. weaker z (contains_later y ys z d)) later fails holds in
          elim (cases_Bool (p y)) [
            | inl first ↦
                let also : q y ≡ true = weaker y (contains_first y ys) first in
                rw (first, also) (omega arith)
            | inr other ↦ rw other (omega arith)
          ]
    ]

pub contains_map : {X Y : Type 0} (f : X → Y) (xs : List X) (x : X) → Contains xs x → Contains (map f xs) (f x)
contains_map f [] x c = absurd (none_in_nil x c)
contains_map {X} {Y} f (y ∷ ys) x c =
    elim (contains_cases y ys x c) [
      | inl here ↦ subst (Contains (map f (y ∷ ys))) (ap f here) (contains_first (f y) (map f ys))
      | inr later ↦ contains_later (f y) (map f ys) (f x) (contains_map f ys x later)
    ]

pub map_contains : {X Y : Type 0} (f : X → Y) (xs : List X) (y : Y) → Contains (map f xs) y → (x : X) × Contains xs x × (f x ≡ y)
map_contains f [] y c = absurd (none_in_nil y c)
map_contains f (x ∷ xs) y c =
    elim (contains_cases (f x) (map f xs) y c) [
      | inl here ↦ (x, contains_first x xs, here)
      | inr later ↦ let rest = map_contains f xs y later in (rest.0, contains_later x xs rest.0 rest.1, rest.2)
    ]

pub contains_filter : {X : Type 0} (test : X → Bool) (xs : List X) (x : X) → Contains xs x → test x ≡ true → Contains (filter test xs) x
contains_filter test [] x c passes = absurd (none_in_nil x c)
contains_filter {X} test (y ∷ ys) x c passes =
    elim (contains_cases y ys x c) [
      | inl here ↦
          let first : test y ≡ true = ap test here ∙ passes in
          rw first (subst (Contains (y ∷ filter test ys)) here (contains_first y (filter test ys)))
      | inr later ↦
          let rest : Contains (filter test ys) x = contains_filter test ys x later passes in
          elim (cases_Bool (test y)) [
            | inl first ↦ rw first (contains_later y (filter test ys) x rest)
            | inr other ↦ rw other rest
          ]
    ]

pub filter_contains : {X : Type 0} (test : X → Bool) (xs : List X) (x : X) → Contains (filter test xs) x → Contains xs x × (test x ≡ true)
filter_contains test [] x c = absurd (none_in_nil x c)
filter_contains {X} test (y ∷ ys) x c = by_first (filter_contains test ys x) (cases_Bool (test y))
  where
    longer : Contains ys x × (test x ≡ true) → Contains (y ∷ ys) x × (test x ≡ true)
    longer h = (contains_later y ys x h.0, h.1)

    by_first : (Contains (filter test ys) x → Contains ys x × (test x ≡ true)) → (test y ≡ true) ⊎ (test y ≡ false)
        → Contains (y ∷ ys) x × (test x ≡ true)
    by_first rest (inl first) =
        let P : Bool → Type 0 = λ b. Contains (cond b (y ∷ filter test ys) (filter test ys)) x in
        elim (contains_cases y (filter test ys) x (subst P first c)) [
          | inl here ↦ (subst (Contains (y ∷ ys)) here (contains_first y ys), sym (ap test here) ∙ first)
          | inr later ↦ longer (rest later)
        ]
    by_first rest (inr other) =
        let P : Bool → Type 0 = λ b. Contains (cond b (y ∷ filter test ys) (filter test ys)) x in
        longer (rest (subst P other c))

-- a number stands in a list or doesn't
pub cases_contains : (names : List ℕ) (name : ℕ) → Contains names name ⊎ (Contains names name → ⊥)
cases_contains names name =
    elim (cases_Bool (list_any (λ (o : ℕ). o == name) names)) [
      | inl found ↦
          let there = any_from (λ (o : ℕ). o == name) names found in
          inl (subst (Contains names) (eqb-true there.0 name there.2) there.1)
      | inr none ↦ inr (λ c. both_ways _ none (any_at (λ (o : ℕ). o == name) names name c (eq-eqb name name refl)))
    ]
