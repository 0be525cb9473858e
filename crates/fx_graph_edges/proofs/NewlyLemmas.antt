-- The names that came newly to be unread, sorted: they are those of the definition.
use Rattle.std.proofs.Common.{◌≡◌, ℕ, zero, suc, ◌+◌, ◌<◌, ◌≤◌, Bool, true, false, cond, not, ◌&&◌, ◌||◌, List, [], ◌∷◌, length, filter, take, set, get_or, eqb, ◌++◌, ◌^◌, All, arith, refl, sym, ◌∙◌, ap, subst, inl, inr, ◌⊎◌}
use Rattle.std.specs.List.{Contains, range_with_len}
use Rattle.std.specs.List.Sorted.{IsPermutation, IsNonDecreasing}
use Rattle.std.proofs.lemmas.Bool.{cases_Bool, and_parts, and_from, or_right, not-true, not_from_false, eqb-false, ne_eqb}
use Rattle.std.proofs.lemmas.Bool.Decides.{nat_tests}
use Rattle.std.proofs.lemmas.List.{get_or_default, get_or-take, length-take-le, take_more, take_more_set, map-append, take-append-le, take_all}
use Rattle.std.proofs.lemmas.List.Sorted.{IsPermutation-sym, Contains-permutation, All-permutation}
use Rattle.std.proofs.lemmas.Map.Keys.{IsDistinct-IsPermutation, IsDistinct-from_apart, apart_from_distinct}
use Rattle.fx_base.specs.declared.keys.Name.{Name}
use Rattle.fx_graph_model.specs.declared.entries.Entry.{Entry}
use Rattle.fx_base.specs.Names.{numbers, name_of}
use Rattle.fx_graph_model.specs.Unread.{marked, leads_to_any, after_marking, newly_marked}
use Rattle.fx_graph_model.specs.Marking.{at, Listed}
use Rattle.fx_graph_model.proofs.Members.{none_in_nil, contains_first, contains_later, contains_cases, contains_filter, filter_contains, in_range, below_range}
use Rattle.fx_graph_model.proofs.Changed.{marked-marking}

-- each number is below all later ones
abbrev pub Rises : List ℕ → Type 0
Rises xs = (i j : ℕ) → i < j → j < length xs → at xs i < at xs j

rises_rest : (x : ℕ) (xs : List ℕ) → Rises (x ∷ xs) → Rises xs
rises_rest x xs rises i j less h = rises (suc i) (suc j) (omega arith) (omega arith)

at_contains : (xs : List ℕ) (x : ℕ) → (c : Contains xs x) → at xs c.0 ≡ x
at_contains xs x c = sym (default xs c.0 c.1) ∙ c.2
  where
    default : (ys : List ℕ) (k : ℕ) → k < length ys → get_or ys k x ≡ get_or ys k 0
    default [] k h = absurd (omega arith)
    default (y ∷ ys) zero h = refl
    default (y ∷ ys) (suc k) h = default ys k (omega arith)

contains_at : (xs : List ℕ) (i : ℕ) → i < length xs → Contains xs (at xs i)
contains_at [] i h = absurd (omega arith)
contains_at (x ∷ xs) zero h = contains_first x xs
contains_at (x ∷ xs) (suc i) h = contains_later x xs (at xs i) (contains_at xs i (omega arith))

rises_first : (x : ℕ) (xs : List ℕ) → Rises (x ∷ xs) → (y : ℕ) → Contains xs y → x < y
rises_first x xs rises y c =
    let e : at xs c.0 ≡ y = at_contains xs y c in
    let less : x < at xs c.0 = rises 0 (suc c.0) (omega arith) (omega (arith, c.1)) in
    omega arith

-- two rising lists of the same numbers
pub same_rising : (xs ys : List ℕ) → Rises xs → Rises ys → ((z : ℕ) → Contains xs z → Contains ys z) → ((z : ℕ) → Contains ys z → Contains xs z)
    → xs ≡ ys
same_rising [] [] _ _ _ _ = refl
same_rising [] (y ∷ ys) _ _ _ back = absurd (none_in_nil y (back y (contains_first y ys)))
same_rising (x ∷ xs) [] _ _ there _ = absurd (none_in_nil x (there x (contains_first x xs)))
same_rising (x ∷ xs) (y ∷ ys) up up' there back =
    let first : x ≡ y = least (contains_cases y ys x (there x (contains_first x xs))) (contains_cases x xs y (back y (contains_first y ys))) in
    ap (λ n. n ∷ xs) first
    ∙ ap (λ (zs : List ℕ). y ∷ zs)
    (same_rising xs ys (rises_rest x xs up) (rises_rest y ys up')
    (λ z c. to z c first (contains_cases y ys z (there z (contains_later x xs z c))))
    (λ z c. from z c first (contains_cases x xs z (back z (contains_later y ys z c)))))
  where
    least : (y ≡ x) ⊎ Contains ys x → (x ≡ y) ⊎ Contains xs y → x ≡ y
    least (inl e) _ = sym e
    least (inr c) (inl e) = e
    least (inr c) (inr d) =
        let below : y < x = rises_first y ys up' x c in
        let above : x < y = rises_first x xs up y d in
        absurd (omega arith)

    to : (z : ℕ) → Contains xs z → x ≡ y → (y ≡ z) ⊎ Contains ys z → Contains ys z
    to z c first (inl e) = let above : x < z = rises_first x xs up z c in absurd (omega arith)
    to z c first (inr d) = d

    from : (z : ℕ) → Contains ys z → x ≡ y → (x ≡ z) ⊎ Contains xs z → Contains xs z
    from z c first (inl e) = let above : y < z = rises_first y ys up' z c in absurd (omega arith)
    from z c first (inr d) = d

rises_cons : (x : ℕ) (xs : List ℕ) → ((y : ℕ) → Contains xs y → x < y) → Rises xs → Rises (x ∷ xs)
rises_cons x xs first rest zero zero less h = absurd (omega arith)
rises_cons x xs first rest zero (suc j) less h = first (at xs j) (contains_at xs j (omega arith))
rises_cons x xs first rest (suc i) zero less h = absurd (omega arith)
rises_cons x xs first rest (suc i) (suc j) less h = rest i j (omega arith) (omega arith)

-- a range is not below where it begins
range_from : (a n x : ℕ) → Contains (range_with_len a n) x → a ≤ x
range_from a zero x c = absurd (none_in_nil x c)
range_from a (suc n) x c =
    elim (contains_cases a (range_with_len (a + 1) n) x c) [
      | inl here ↦ let e : a ≡ x = here in omega arith
      | inr later ↦ let above : a + 1 ≤ x = range_from (a + 1) n x later in omega arith
    ]

pub rises_filter : (test : ℕ → Bool) (a n : ℕ) → Rises (filter test (range_with_len a n))
rises_filter test a zero = λ i j less h. absurd (omega arith)
rises_filter test a (suc n) =
    by_first (rises_filter test (a + 1) n) (cases_Bool (test a))
  where
    above : (y : ℕ) → Contains (filter test (range_with_len (a + 1) n)) y → a < y
    above y c =
        let from : a + 1 ≤ y = range_from (a + 1) n y (filter_contains test (range_with_len (a + 1) n) y c).0 in
        omega arith

    by_first : Rises (filter test (range_with_len (a + 1) n)) → (test a ≡ true) ⊎ (test a ≡ false)
        → Rises (cond (test a) (a ∷ filter test (range_with_len (a + 1) n)) (filter test (range_with_len (a + 1) n)))
    by_first rest (inl passes) =
        let P : Bool → Type 0 = λ b. Rises (cond b (a ∷ filter test (range_with_len (a + 1) n)) (filter test (range_with_len (a + 1) n))) in
        subst P (sym passes) (rises_cons a (filter test (range_with_len (a + 1) n)) above rest)
    by_first rest (inr fails) =
        let P : Bool → Type 0 = λ b. Rises (cond b (a ∷ filter test (range_with_len (a + 1) n)) (filter test (range_with_len (a + 1) n))) in
        subst P (sym fails) rest

-- a rising list of just the numbers below a bound that pass a test
pub in_order_is : (test : ℕ → Bool) (n : ℕ) (xs : List ℕ) → Rises xs
    → ((x : ℕ) → Contains xs x → (x < n) × (test x ≡ true))
    → ((x : ℕ) → x < n → test x ≡ true → Contains xs x)
    → xs ≡ filter test (range_with_len 0 n)
in_order_is test n xs rises sound complete =
    same_rising xs (filter test (range_with_len 0 n)) rises (rises_filter test 0 n)
    (λ x c.
    let ok = sound x c in
    contains_filter test (range_with_len 0 n) x (in_range n x ok.0) ok.1)
    (λ x c.
    let parts = filter_contains test (range_with_len 0 n) x c in
    complete x (below_range n x parts.0) parts.1)

-- numbers that differ, sorted, rise
rises_sorted : (xs ys : List ℕ) → ((i j d : ℕ) → i < j → j < length xs → eqb (get_or xs i d) (get_or xs j d) ≡ false)
    → IsPermutation xs ys → IsNonDecreasing ys → Rises ys
rises_sorted xs ys apart moved sorted i j less h =
    let apart' = IsDistinct-IsPermutation eqb (λ x y. grind (arith, nat_tests)) xs ys moved (IsDistinct-from_apart eqb xs apart) in
    let differs : at ys i ≡ at ys j → ⊥ = eqb-false _ _ (apart_from_distinct eqb ys i j 0 apart' less h) in
    let up : at ys i ≤ at ys j = sorted i j 0 (omega arith) h in
    omega (arith, differs)

at-take : (count : ℕ) (work : List ℕ) (i : ℕ) → i < count → at (take count work) i ≡ at work i
at-take count work i h = get_or-take count work i 0 h

-- a number of the front of a list, whatever a place outside would give
front_at : (work : List ℕ) (count k d : ℕ) → count ≤ length work → k < count → get_or (take count work) k d ≡ at work k
front_at work count k d fits h = get_or-take count work k d h ∙ get_or_default work k d 0 (omega arith)

apart_listed : (before now : List Bool) (work : List ℕ) (count : ℕ) → Listed before now work count → count ≤ length work
    → (i j d : ℕ) → i < j → j < length (take count work) → eqb (get_or (take count work) i d) (get_or (take count work) j d) ≡ false
apart_listed before now work count l fits i j d less h =
    let long : length (take count work) ≡ count = length-take-le count work fits in
    ne_eqb _ _ (λ e. l.once i j less (omega arith) (sym (front_at work count i d fits (omega arith)) ∙ e ∙ front_at work count j d fits (omega arith)))

-- the part of the work list that was marked, sorted
pub newly_is : (es : List Entry) (names : List ℕ) (before now : List Bool) (work sorted : List ℕ) (count : ℕ)
    → Listed before now work count → count ≤ length work → now ≡ after_marking es names before
    → IsPermutation (take count work) sorted → IsNonDecreasing sorted
    → sorted ≡ newly_marked es names before
newly_is es names before now work sorted count l fits is moved up =
    in_order_is (λ (n : ℕ). not (marked before n) && leads_to_any es names n) (length before) sorted
    (rises_sorted (take count work) sorted (apart_listed before now work count l fits) moved up) sound complete
  where
    flag : (n : ℕ) → n < length before → marked now n ≡ (marked before n || leads_to_any es names n)
    flag n h = ap (λ (f : List Bool). marked f n) is ∙ marked-marking es names before n h

    sound : (x : ℕ) → Contains sorted x → (x < length before) × ((not (marked before x) && leads_to_any es names x) ≡ true)
    sound x c =
        let d : Contains (take count work) x = Contains-permutation sorted (take count work) x (IsPermutation-sym (take count work) sorted moved) c in
        let long : length (take count work) ≡ count = length-take-le count work fits in
        let low : d.0 < count = omega (arith, d.1) in
        let e : at work d.0 ≡ x = sym (at-take count work d.0 low) ∙ at_contains (take count work) x d in
        let P : ℕ → Type 0 = λ n. (n < length before) × (marked before n ≡ false) × (marked now n ≡ true) in
        let was = subst P e (l.listed d.0 low) in
        (was.0, and_from _ _ (not_from_false _ was.1) (led x was.1 (sym (flag x was.0) ∙ was.2)))
      where
        led : (x : ℕ) → marked before x ≡ false → (marked before x || leads_to_any es names x) ≡ true → leads_to_any es names x ≡ true
        led x off on = sym (ap (λ (b : Bool). b || leads_to_any es names x) off) ∙ on

    complete : (x : ℕ) → x < length before → (not (marked before x) && leads_to_any es names x) ≡ true → Contains sorted x
    complete x h e =
        let parts = and_parts (not (marked before x)) (leads_to_any es names x) e in
        let on : marked now x ≡ true = flag x h ∙ or_right _ _ parts.1 in
        let place = l.each x (not-true _ parts.0) on in
        let long : length (take count work) ≡ count = length-take-le count work fits in
        let there : Contains (take count work) (at (take count work) place.0) = contains_at (take count work) place.0 (omega (arith, place.1)) in
        Contains-permutation (take count work) sorted x moved
        (subst (Contains (take count work)) (at-take count work place.0 place.1 ∙ place.2) there)

-- one number more was written as a name
pub written_more : (names : List Name) (places : List ℕ) (i : ℕ) → i < length names → i < length places → numbers (take i names) ≡ take i places
    → numbers (take (i + 1) (set names i (name_of (get_or places i 0)))) ≡ take (i + 1) places
written_more names places i room h so_far =
    rw (take_more_set names i (name_of (get_or places i 0)) room, map-append (λ (name : Name). name.0) (take i names) (name_of (get_or places i 0) ∷ []), so_far, take_more places i 0 h)
    refl

-- the front of two parts that were joined
pub front_of : (front back : List ℕ) (count : ℕ) → length front ≡ count → take count (front ++ back) ≡ front
front_of front back count long = take-append-le count front back (omega arith) ∙ take_all count front (omega arith)

-- names that are few fit, in whatever order
pub fits_moved : (work sorted : List ℕ) (count : ℕ) → count ≤ length work → ((i : ℕ) → i < count → at work i < 4000000) → IsPermutation (take count work) sorted
    → All (λ (place : ℕ). place < 2 ^ 32) sorted
fits_moved work sorted count fits few moved =
    All-permutation (λ (place : ℕ). place < 2 ^ 32) (take count work) sorted moved
    (λ k d h.
    let low : k < count = omega (arith, length-take-le count work fits) in
    omega (arith, few k low, front_at work count k d fits low))
