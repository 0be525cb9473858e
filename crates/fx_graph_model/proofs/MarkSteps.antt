-- One name more is marked, and a list of names.
use Rattle.std.proofs.Common.{◌≡◌, ◌≢◌, ℕ, ◌+◌, ◌<◌, ◌≤◌, Bool, true, false, cond, List, [], ◌∷◌, ◌++◌, length, set, arith, refl, sym, ◌∙◌, ap, subst, inl, inr, ◌⊎◌}
use Rattle.std.specs.List.{Contains}
use Rattle.std.proofs.lemmas.Bool.{cases_Bool, cases_lt, cases_eq, both_ways}
use Rattle.std.proofs.lemmas.List.{get_or-set_same, get_or-set_other, length-set}
use Rattle.std.proofs.lemmas.List.Elements.{Contains-append_left, Contains-push, Contains-push_cases}
use Rattle.fx_graph_model.specs.Unread.{marked, unmarked}
use Rattle.fx_graph_model.specs.Marking.{at, Listed, MarksAll}
use Rattle.fx_graph_model.proofs.Members.{none_in_nil}
use Rattle.fx_graph_model.proofs.Flags.{marked-set_same, marked-set_other, set_marked, unmarked-mark, unmarked_some}

-- nothing is listed yet
pub listed_start : (flags : List Bool) (work : List ℕ) → Listed flags flags work 0
listed_start flags work = record {
  flags = refl;
  room = omega arith;
  kept = λ name on. on;
  listed = λ i h. absurd (omega arith);
  each = λ name off on. absurd (both_ways _ off on);
  once = λ i j _ h. absurd (omega arith);
}

-- a name that wasn't marked is marked and listed
pub listed_more : (before now : List Bool) (work : List ℕ) (count name : ℕ) → Listed before now work count
    → name < length now → count < length work → marked now name ≡ false
    → Listed before (set now name true) (set work count name) (count + 1)
listed_more before now work count name l within room off =
    let long : length now ≡ length before = l.flags in
    let less : unmarked (set now name true) + 1 ≡ unmarked now = unmarked-mark now name within off in
    let sum : count + unmarked now ≡ unmarked before = l.room in
    let old : (i : ℕ) → i < count → at (set work count name) i ≡ at work i =
    λ i h. get_or-set_other work count i name 0 (λ (e : i ≡ count). omega arith) in
    let here : at (set work count name) count ≡ name = get_or-set_same work count name 0 room in
    record {
      flags = length-set now name true ∙ l.flags;
      room = omega arith;
      kept = kept;
      listed = λ i h. listed old here i h (cases_lt i count);
      each = λ other was is. each old here other was is (cases_eq other name);
      once = λ i j less h. once old here i j less h (cases_lt j count);
    }
  where
    was_off : marked before name ≡ false
    was_off =
        elim (cases_Bool (marked before name)) [
          | inl on ↦ absurd (both_ways _ off (l.kept name on))
          | inr fails ↦ fails
        ]

    kept : (other : ℕ) → marked before other ≡ true → marked (set now name true) other ≡ true
    kept other on =
        elim (cases_eq other name) [
          | inl here ↦ ap (marked (set now name true)) here ∙ marked-set_same now name true within
          | inr differs ↦ marked-set_other now name other true differs ∙ l.kept other on
        ]

    listed : ((i : ℕ) → i < count → at (set work count name) i ≡ at work i) → at (set work count name) count ≡ name
        → (i : ℕ) → i < count + 1 → (i < count) ⊎ (count ≤ i)
        → (at (set work count name) i < length before) × (marked before (at (set work count name) i) ≡ false)
        × (marked (set now name true) (at (set work count name) i) ≡ true)
    listed old here i h (inl below) =
        let P : ℕ → Type 0 = λ n. (n < length before) × (marked before n ≡ false) × (marked (set now name true) n ≡ true) in
        let was = l.listed i below in
        let differs : at work i ≡ name → ⊥ = λ e. both_ways _ off (subst (λ (n : ℕ). marked now n ≡ true) e was.2) in
        subst P (sym (old i below)) (was.0, was.1, marked-set_other now name (at work i) true differs ∙ was.2)
    listed old here i h (inr above) =
        let P : ℕ → Type 0 = λ n. (n < length before) × (marked before n ≡ false) × (marked (set now name true) n ≡ true) in
        let e : i ≡ count = omega arith in
        let long : length now ≡ length before = l.flags in
        let low : name < length before = omega arith in
        subst P (sym (ap (at (set work count name)) e ∙ here)) (low, was_off, marked-set_same now name true within)

    each : ((i : ℕ) → i < count → at (set work count name) i ≡ at work i) → at (set work count name) count ≡ name
        → (other : ℕ) → marked before other ≡ false → marked (set now name true) other ≡ true
        → (other ≡ name) ⊎ (other ≡ name → ⊥) → (i : ℕ) × (i < count + 1) × (at (set work count name) i ≡ other)
    each old here other was is (inl same) = (count, omega arith, here ∙ sym same)
    each old here other was is (inr differs) =
        let found = l.each other was (sym (marked-set_other now name other true differs) ∙ is) in
        let low : found.0 < count = found.1 in
        (found.0, omega arith, old found.0 found.1 ∙ found.2)

    once : ((i : ℕ) → i < count → at (set work count name) i ≡ at work i) → at (set work count name) count ≡ name
        → (i j : ℕ) → i < j → j < count + 1 → (j < count) ⊎ (count ≤ j)
        → at (set work count name) i ≢ at (set work count name) j
    once old here i j less h (inl below) =
        λ e. l.once i j less below (sym (old i (omega arith)) ∙ e ∙ old j below)
    once old here i j less h (inr above) =
        λ e.
        let last : j ≡ count = omega arith in
        let low : i < count = omega arith in
        let same : at work i ≡ name = sym (old i low) ∙ e ∙ ap (at (set work count name)) last ∙ here in
        both_ways _ off (subst (λ (n : ℕ). marked now n ≡ true) same (l.listed i low).2)

pub marks_none : (flags : List Bool) (work : List ℕ) (count : ℕ) → MarksAll [] flags work count flags work count
marks_none flags work count = record {
  flags = refl;
  places = refl;
  room = refl;
  more = omega arith;
  kept = λ name on. on;
  each = λ name c. absurd (none_in_nil name c);
  only = λ name on. inl on;
  front = λ i h. refl;
  fresh = λ i low high. absurd (omega arith);
  found = λ name off on. absurd (both_ways _ off on);
  goes_on = λ before l. l;
}

-- a name that is marked already
marks_again : (names : List ℕ) (before : List Bool) (work : List ℕ) (count : ℕ) (now : List Bool) (after : List ℕ) (end name : ℕ)
    → MarksAll names before work count now after end → marked now name ≡ true
    → MarksAll (names ++ name ∷ []) before work count now after end
marks_again names before work count now after end name m on = record {
  flags = m.flags;
  places = m.places;
  room = m.room;
  more = m.more;
  kept = m.kept;
  each = λ other c. each other (Contains-push_cases names name other c);
  only = λ other is. only other (m.only other is);
  front = m.front;
  fresh = λ i low high. Contains-append_left names (name ∷ []) (at after i) (m.fresh i low high);
  found = m.found;
  goes_on = m.goes_on;
}
  where
    each : (other : ℕ) → Contains names other ⊎ (name ≡ other) → marked now other ≡ true
    each other (inl c) = m.each other c
    each other (inr e) = subst (λ (n : ℕ). marked now n ≡ true) e on

    only : (other : ℕ) → (marked before other ≡ true) ⊎ Contains names other
        → (marked before other ≡ true) ⊎ Contains (names ++ name ∷ []) other
    only other (inl was) = inl was
    only other (inr c) = inr (Contains-append_left names (name ∷ []) other c)

marks_new : (names : List ℕ) (before : List Bool) (work : List ℕ) (count : ℕ) (now : List Bool) (after : List ℕ) (end name : ℕ)
    → MarksAll names before work count now after end → name < length now → end < length after → marked now name ≡ false
    → MarksAll (names ++ name ∷ []) before work count (set now name true) (set after end name) (end + 1)
marks_new names before work count now after end name m within space off =
    let less : unmarked (set now name true) + 1 ≡ unmarked now = unmarked-mark now name within off in
    let sum : end + unmarked now ≡ count + unmarked before = m.room in
    let more : count ≤ end = m.more in
    record {
      flags = length-set now name true ∙ m.flags;
      places = length-set after end name ∙ m.places;
      room = omega arith;
      more = omega arith;
      kept = kept;
      each = λ other c. each other (Contains-push_cases names name other c);
      only = λ other is. only other is (cases_eq other name);
      front = λ i h. old i (omega arith) ∙ m.front i h;
      fresh = λ i low high. fresh i low high (cases_lt i end);
      found = λ other was is. found other was is (cases_eq other name);
      goes_on = λ began l. listed_more began now after end name (m.goes_on began l) within space off;
    }
  where
    old : (i : ℕ) → i < end → at (set after end name) i ≡ at after i
    old i h = get_or-set_other after end i name 0 (λ (e : i ≡ end). omega arith)

    here : at (set after end name) end ≡ name
    here = get_or-set_same after end name 0 space

    still : (other : ℕ) → marked now other ≡ true → marked (set now name true) other ≡ true
    still other on =
        elim (cases_eq other name) [
          | inl same ↦ ap (marked (set now name true)) same ∙ marked-set_same now name true within
          | inr differs ↦ marked-set_other now name other true differs ∙ on
        ]

    kept : (other : ℕ) → marked before other ≡ true → marked (set now name true) other ≡ true
    kept other on = still other (m.kept other on)

    each : (other : ℕ) → Contains names other ⊎ (name ≡ other) → marked (set now name true) other ≡ true
    each other (inl c) = still other (m.each other c)
    each other (inr e) = subst (λ (n : ℕ). marked (set now name true) n ≡ true) e (marked-set_same now name true within)

    longer : (other : ℕ) → (marked before other ≡ true) ⊎ Contains names other
        → (marked before other ≡ true) ⊎ Contains (names ++ name ∷ []) other
    longer other (inl was) = inl was
    longer other (inr c) = inr (Contains-append_left names (name ∷ []) other c)

    only : (other : ℕ) → marked (set now name true) other ≡ true → (other ≡ name) ⊎ (other ≡ name → ⊥)
        → (marked before other ≡ true) ⊎ Contains (names ++ name ∷ []) other
    only other is (inl same) = inr (subst (Contains (names ++ name ∷ [])) (sym same) (Contains-push names name))
    only other is (inr differs) = longer other (m.only other (sym (marked-set_other now name other true differs) ∙ is))

    fresh : (i : ℕ) → count ≤ i → i < end + 1 → (i < end) ⊎ (end ≤ i) → Contains (names ++ name ∷ []) (at (set after end name) i)
    fresh i low high (inl below) =
        subst (Contains (names ++ name ∷ [])) (sym (old i below))
        (Contains-append_left names (name ∷ []) (at after i) (m.fresh i low below))
    fresh i low high (inr above) =
        let e : i ≡ end = omega arith in
        subst (Contains (names ++ name ∷ [])) (sym (ap (at (set after end name)) e ∙ here)) (Contains-push names name)

    found : (other : ℕ) → marked before other ≡ false → marked (set now name true) other ≡ true
        → (other ≡ name) ⊎ (other ≡ name → ⊥) → (i : ℕ) × (count ≤ i) × (i < end + 1) × (at (set after end name) i ≡ other)
    found other was is (inl same) =
        let low : count ≤ end = m.more in
        (end, low, omega arith, here ∙ sym same)
    found other was is (inr differs) =
        let old_one = m.found other was (sym (marked-set_other now name other true differs) ∙ is) in
        let high : old_one.0 < end = old_one.2 in
        (old_one.0, old_one.1, omega arith, old old_one.0 old_one.2 ∙ old_one.3)

-- one name more, by the three equations of the code
pub marks_more : (names : List ℕ) (before : List Bool) (work : List ℕ) (count : ℕ) (now : List Bool) (after : List ℕ) (end name : ℕ)
    → MarksAll names before work count now after end → name < length now → end + unmarked now ≤ length after
    → MarksAll (names ++ name ∷ []) before work count (set now name true) (cond (marked now name) after (set after end name))
    (cond (marked now name) end (end + 1))
marks_more names before work count now after end name m within space =
    elim (cases_Bool (marked now name)) [
      | inl on ↦ rw (on, set_marked now name on) (marks_again names before work count now after end name m on)
      | inr off ↦
          let some : 0 < unmarked now = unmarked_some now name within off in
          rw off (marks_new names before work count now after end name m within (omega arith) off)
    ]
