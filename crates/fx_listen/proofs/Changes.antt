-- What an addition, a removal and forgetting leave: sorted listeners whose numbers were given.
use Rattle.std.proofs.Common.{◌≡◌, ◌==◌, ℕ, zero, suc, ◌+◌, ◌-◌, ◌<◌, ◌≤◌, Bool, true, false, not, ◌||◌, leb, List, [], ◌∷◌, ◌++◌, length, get_or, take, drop, filter, slice_range, position, Option, Some, None, All, AllPairs, refl, sym, ◌∙◌, ap, inl, inr, arith}
use Rattle.std.specs.List.{list_any, remove}
use Rattle.std.proofs.lemmas.Bool.{and_left, cases_lt, cond_both, le-leb, leb-true, lt-leb, ltb-true, ne_eqb, or_parts}
use Rattle.std.proofs.lemmas.List.{get_or-take, length-take-le, take-append-drop}
use Rattle.std.proofs.lemmas.List.Edits.{get_or-between, length-between, split_between}
use Rattle.std.proofs.lemmas.List.Elements.{All-append, All-cons, All-filter, All-tail, All-head, All-weaker, filter_passes}
use Rattle.std.proofs.lemmas.List.Filters.{length-filter_both}
use Rattle.std.proofs.lemmas.List.Folds.{list_any-append, list_any_none}
use Rattle.std.proofs.lemmas.List.Kept.{AllPairs-cons, AllPairs-filter}
use Rattle.std.proofs.lemmas.List.Quantifiers.{position-Some}
use Rattle.fx_handles.specs.declared.Owner.{Owner}
use Rattle.fx_store_pairs.specs.Pairs.{is_among}
use Rattle.fx_listen.specs.declared.entries.ListenKind.{ListenKind}
use Rattle.fx_listen.specs.declared.entries.ListenKind.TheVariants.{Invalid}
use Rattle.fx_listen.specs.declared.entries.Listener.{Listener}
use Rattle.fx_listen.specs.Listening.{IsBefore, IsSound, Table, after_add, after_forget, after_forget_all, after_remove, is_elsewhere, is_equal, is_live, living_in, placed, pruned, tells, without_first}
use Rattle.fx_listen.specs.Sorting.{IsByName, IsFirst, is_above, is_below, is_upto}
use Rattle.fx_listen.proofs.Cuts.{AllPairs-append, AllPairs-head, AllPairs-tail, list_any-placeless}

-- pruning

pub length-living_in : (living : List Owner) (all : List Listener) → length (living_in living all) ≤ length all
length-living_in living all =
    omega (arith, length-filter_both (is_live living) (λ (l : Listener). not (is_live living l)) (λ _. refl) all)

pub pruned-many : (living : List Owner) (all : List Listener) → 10000 ≤ length all
    → filter (is_live living) all ≡ pruned living all
pruned-many living all many = rw (le-leb 10000 (length all) many) refl

pub pruned-few : (living : List Owner) (all : List Listener) → length all < 10000 → all ≡ pruned living all
pruned-few living all few = rw (lt-leb 10000 (length all) few) refl

-- the living are at most all
pub not_full : (living : List Owner) (all : List Listener) → length all < 10000
    → false ≡ leb 10000 (length (living_in living all))
not_full living all few =
    sym (lt-leb 10000 (length (living_in living all)) (omega (arith, few, length-living_in living all)))

pub IsByName-pruned : (living : List Owner) (all : List Listener) → IsByName all → IsByName (pruned living all)
IsByName-pruned living all sorted =
    cond_both (leb 10000 (length all)) (living_in living all) all IsByName
    (λ _. AllPairs-filter (λ (one other : Listener). one.name.0 ≤ other.name.0) (is_live living) all sorted) (λ _. sorted)

-- nobody is taken out between a place and itself
pub none_between : (all : List Listener) (first next : ℕ) → first ≤ next → next ≤ first → all ≡ take first all ++ drop next all
none_between all first next order none =
    let same : next ≡ first = omega (arith, order, none) in
    sym (ap (λ (n : ℕ). take first all ++ drop n all) same ∙ take-append-drop first all)

-- the first that passes

abbrev anybody : Listener
anybody = record { number = 0; name = record { 0 = 0 }; kind = Invalid; owner = None; tag = 0 }

pub without_first-at : (test : Listener → Bool) (all : List Listener) (place : ℕ)
    → IsFirst test all place → without_first test all ≡ remove all place
without_first-at test [] place first = absurd (omega (arith, first.within))
without_first-at test (x ∷ xs) zero first = rw (first.passes x) refl
without_first-at test (x ∷ xs) (suc place) first =
    rw (first.before 0 x (omega arith))
    (ap (λ (l : List Listener). x ∷ l)
    (without_first-at test xs place
    (record {
      within = omega (arith, first.within);
      passes = λ other. first.passes other;
      before = λ earlier other order. first.before (suc earlier) other (omega (arith, order));
    })))

pub without_first-none : (test : Listener → Bool) (all : List Listener)
    → list_any test all ≡ false → without_first test all ≡ all
without_first-none test [] none = refl
without_first-none test (x ∷ xs) none =
    let parts = or_parts (test x) (list_any test xs) none in
    rw (parts.0, without_first-none test xs parts.1) refl

-- the test passes none before and none behind the two places
module _ (test : Listener → Bool) (all : List Listener) (first next : ℕ)
    (order : first ≤ next) (within : next ≤ length all)
    (before : All (λ x. test x ≡ false) (take first all)) (behind : All (λ x. test x ≡ false) (drop next all)) where
  pub IsFirst-between : (place : ℕ) → position test (slice_range all first next) ≡ Some place → IsFirst test all (first + place)
  IsFirst-between place is =
      let long : length (slice_range all first next) ≡ next - first = length-between all first next within in
      let at : (d : Listener) → (place < length (slice_range all first next)) × (test (get_or (slice_range all first next) place d) ≡ true) × ((k : ℕ) → k < place → test (get_or (slice_range all first next) k d) ≡ false) =
      λ d. position-Some test (slice_range all first next) place d is in
      let low : place < next - first = omega (arith, long, (at anybody).0) in
      record {
        within = omega (arith, low, within);
        passes = λ d. ap test (sym (get_or-between all first next place d (omega (arith, low)))) ∙ (at d).1;
        before = λ earlier d earlier_than.
            elim (cases_lt earlier first) [
              | inl less ↦
                  ap test (sym (get_or-take first all earlier d less)) ∙ before earlier d (omega (arith, less, length-take-le first all (omega (arith, order, within))))
              | inr more ↦
                  let e : first + (earlier - first) ≡ earlier = omega (arith, more) in
                  ap (λ (n : ℕ). test (get_or all n d)) (sym e)
                  ∙ ap test (sym (get_or-between all first next (earlier - first) d (omega (arith, low, earlier_than, more))))
                  ∙ (at d).2 (earlier - first) (omega (arith, earlier_than, more))
            ];
      }

  pub list_any-between : position test (slice_range all first next) ≡ None → list_any test all ≡ false
  list_any-between none =
      ap (list_any test) (split_between all first next order)
      ∙ list_any-append test (take first all) (slice_range all first next ++ drop next all)
      ∙ ap (λ (b : Bool). b || list_any test (slice_range all first next ++ drop next all)) (list_any_none test _ before)
      ∙ list_any-append test (slice_range all first next) (drop next all)
      ∙ ap (λ (b : Bool). b || list_any test (drop next all)) (list_any-placeless test _ none)
      ∙ list_any_none test _ behind

-- an equal listener is on the property

unequal-elsewhere : (name : ℕ) (kind : ListenKind) (owner : Option Owner) (tag : ℕ) (l : Listener)
    → (l.name.0 ≡ name → ⊥) → is_equal name kind owner tag l ≡ false
unequal-elsewhere name kind owner tag l differs =
    and_left (tells name kind l) _ (and_left (l.name.0 == name) _ (ne_eqb l.name.0 name differs))

pub none_equal-below : (name : ℕ) (kind : ListenKind) (owner : Option Owner) (tag : ℕ) (all front : List Listener)
    → front ≡ filter (is_below name) all → All (λ (l : Listener). is_equal name kind owner tag l ≡ false) front
none_equal-below name kind owner tag all front is =
    rw is
    (All-weaker (λ (l : Listener). is_below name l ≡ true) (λ (l : Listener). is_equal name kind owner tag l ≡ false)
    (λ l below. unequal-elsewhere name kind owner tag l (λ e. absurd (omega (arith, e, ltb-true l.name.0 name below))))
    (filter (is_below name) all) (filter_passes (is_below name) all))

pub none_equal-above : (name : ℕ) (kind : ListenKind) (owner : Option Owner) (tag : ℕ) (all back : List Listener)
    → back ≡ filter (is_above name) all → All (λ (l : Listener). is_equal name kind owner tag l ≡ false) back
none_equal-above name kind owner tag all back is =
    rw is
    (All-weaker (λ (l : Listener). is_above name l ≡ true) (λ (l : Listener). is_equal name kind owner tag l ≡ false)
    (λ l above. unequal-elsewhere name kind owner tag l (λ e. absurd (omega (arith, e, ltb-true name l.name.0 above))))
    (filter (is_above name) all) (filter_passes (is_above name) all))

-- tables stay sound

AllPairs-placed : (listener : Listener) (all : List Listener)
    → AllPairs IsBefore all → All (λ (l : Listener). l.number < listener.number) all → AllPairs IsBefore (placed listener all)
AllPairs-placed listener all sorted lower =
    let name = listener.name.0 in
    let behind : All (IsBefore listener) (filter (is_above name) all) =
    λ k d below. inl (ltb-true _ _ (filter_passes (is_above name) all k d below)) in
    AllPairs-append IsBefore (filter (is_upto name) all) (listener ∷ filter (is_above name) all)
    (AllPairs-filter IsBefore (is_upto name) all sorted)
    (AllPairs-cons IsBefore listener (filter (is_above name) all) behind (AllPairs-filter IsBefore (is_above name) all sorted))
    (λ k d below.
    let here = leb-true _ _ (filter_passes (is_upto name) all k d below) in
    let number = All-filter (is_upto name) (λ (l : Listener). l.number < listener.number) all lower k d below in
    All-cons (IsBefore (get_or (filter (is_upto name) all) k d)) listener (filter (is_above name) all)
    (before_or_equal (get_or (filter (is_upto name) all) k d) listener here number)
    (λ m e later. inl (omega (arith, here, ltb-true _ _ (filter_passes (is_above name) all m e later)))))
  where
    before_or_equal : (one other : Listener) → one.name.0 ≤ other.name.0 → one.number < other.number → IsBefore one other
    before_or_equal one other names numbers =
        elim (cases_lt one.name.0 other.name.0) [
          | inl less ↦ inl less
          | inr more ↦ inr (omega (arith, names, more), numbers)
        ]

All-placed : (P : Listener → Type 0) (listener : Listener) (all : List Listener) → P listener → All P all → All P (placed listener all)
All-placed P listener all holds each =
    All-append P (filter (is_upto listener.name.0) all) (listener ∷ filter (is_above listener.name.0) all)
    (All-filter (is_upto listener.name.0) P all each)
    (All-cons P listener (filter (is_above listener.name.0) all) holds (All-filter (is_above listener.name.0) P all each))

All-pruned : (P : Listener → Type 0) (living : List Owner) (all : List Listener) → All P all → All P (pruned living all)
All-pruned P living all each =
    cond_both (leb 10000 (length all)) (living_in living all) all (All P)
    (λ _. All-filter (is_live living) P all each) (λ _. each)

AllPairs-pruned : (living : List Owner) (all : List Listener) → AllPairs IsBefore all → AllPairs IsBefore (pruned living all)
AllPairs-pruned living all sorted =
    cond_both (leb 10000 (length all)) (living_in living all) all (AllPairs IsBefore)
    (λ _. AllPairs-filter IsBefore (is_live living) all sorted) (λ _. sorted)

All-without_first : (P : Listener → Type 0) (test : Listener → Bool) (all : List Listener) → All P all → All P (without_first test all)
All-without_first P test [] each = each
All-without_first P test (x ∷ xs) each =
    cond_both (test x) xs (x ∷ without_first test xs) (All P)
    (λ _. All-tail P x xs each)
    (λ _. All-cons P x (without_first test xs) (All-head P x xs each) (All-without_first P test xs (All-tail P x xs each)))

AllPairs-without_first : (test : Listener → Bool) (all : List Listener) → AllPairs IsBefore all → AllPairs IsBefore (without_first test all)
AllPairs-without_first test [] sorted = sorted
AllPairs-without_first test (x ∷ xs) sorted =
    let rest : AllPairs IsBefore xs = AllPairs-tail IsBefore x xs sorted in
    cond_both (test x) xs (x ∷ without_first test xs) (AllPairs IsBefore)
    (λ _. rest)
    (λ _.
    AllPairs-cons IsBefore x (without_first test xs)
    (All-without_first (IsBefore x) test xs (AllPairs-head IsBefore x xs sorted))
    (AllPairs-without_first test xs rest))

pub sound_added : (living : List Owner) (listener : Listener) (table : Table)
    → listener.number ≡ table.given + 1 → IsSound table → IsSound (after_add living listener table)
sound_added living listener table next sound =
    let numbers = All-pruned (λ (l : Listener). l.number ≤ table.given) living table.entries sound.given in
    record {
      sorted =
          AllPairs-placed listener (pruned living table.entries) (AllPairs-pruned living table.entries sound.sorted)
          (λ k d below. omega (arith, next, numbers k d below));
      given =
          All-placed (λ (l : Listener). l.number ≤ listener.number) listener (pruned living table.entries) (omega arith)
          (λ k d below. omega (arith, next, numbers k d below));
    }

pub sound_removed : (test : Listener → Bool) (table : Table) → IsSound table → IsSound (after_remove test table)
sound_removed test table sound =
    record {
      sorted = AllPairs-without_first test table.entries sound.sorted;
      given = All-without_first (λ (l : Listener). l.number ≤ table.given) test table.entries sound.given;
    }

pub sound_forgotten : (name : ℕ) (table : Table) → IsSound table → IsSound (after_forget name table)
sound_forgotten name table sound =
    record {
      sorted = AllPairs-filter IsBefore (is_elsewhere name) table.entries sound.sorted;
      given = All-filter (is_elsewhere name) (λ (l : Listener). l.number ≤ table.given) table.entries sound.given;
    }

pub sound_forgotten_all : (names : List ℕ) (table : Table) → IsSound table → IsSound (after_forget_all names table)
sound_forgotten_all names table sound =
    record {
      sorted = AllPairs-filter IsBefore stays table.entries sound.sorted;
      given = All-filter stays (λ (l : Listener). l.number ≤ table.given) table.entries sound.given;
    }
  where
    stays : Listener → Bool
    stays l = not (is_among names l.name.0)
