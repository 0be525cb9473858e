-- Owners in slots: what a slot that is filled or emptied does to the list of the living.
use Rattle.std.proofs.Common.{◌≡◌, ◌≢◌, ◌↔◌, ℕ, ◌+◌, ◌<◌, ◌≤◌, Bool, true, false, not, cond, ◌==◌, List, [], ◌∷◌, ◌++◌, length, get_or, Option, Some, None, is_some, count_by, filter, Contains, IsTrue, refl, sym, ◌∙◌, ap, subst, inl, inr, add-one, arith, length-append}
use Rattle.std.specs.Option.{option_map}
use Rattle.std.specs.List.{filter_map, cons_option, range_with_len, position}
use Rattle.std.proofs.lemmas.Bool.{cases_eq, cases_lt, false≢true, both_ways, eqb-true, eq-eqb, ne_eqb, and_from, and_right, and_parts, cases_Bool}
use Rattle.std.proofs.lemmas.List.{get_or_past}
use Rattle.std.proofs.lemmas.List.Elements.{filter_map-append, All-contains_itself, All-weaker}
use Rattle.std.proofs.lemmas.List.Quantifiers.{position-Some}
use Rattle.std.proofs.lemmas.List.Sums.{fails_before_first}
use Rattle.std.proofs.lemmas.Option.{none-some, same_Some}
use Rattle.std.proofs.lemmas.Grind.{common_steps}
use Rattle.slab.proofs.SlabLemmas.{Contains-cons}
use Rattle.fx_handles.specs.declared.Owner.{Owner}
use Rattle.fx_handles.specs.Living.{IsSound, is_same}
use Rattle.fx_handles.specs.Slots.{holds_birth, owner_at, owner_born, owners_in, IsInOneSlot, IsKept}
use Rattle.fx_handles.proofs.Given.{AllPairs-given, range_with_len-suc, filter_map-same, Contains-given, given_at, kept_of, filter_map-kept, length-given_less}

-- one slot

holds_birth-true : (birth : ℕ) (slot : Option ℕ) → holds_birth birth slot ≡ true → slot ≡ Some birth
holds_birth-true birth None holds = absurd (false≢true holds)
holds_birth-true birth (Some held) holds = ap Some (eqb-true held birth holds)

holds_birth-Some : (birth : ℕ) (slot : Option ℕ) → slot ≡ Some birth → holds_birth birth slot ≡ true
holds_birth-Some birth slot is = rw is (eq-eqb birth birth refl)

position-None : (p : Option ℕ → Bool) (slots : List (Option ℕ)) (k : ℕ) (d : Option ℕ)
    → position p slots ≡ None → k < length slots → p (get_or slots k d) ≡ false
position-None p slots k d none within =
    fails_before_first p slots k d (grind (arith, common_steps))

slot_within : (slots : List (Option ℕ)) (slot birth : ℕ) → get_or slots slot None ≡ Some birth → slot < length slots
slot_within slots slot birth is =
    elim (cases_lt slot (length slots)) [
      | inl within ↦ within
      | inr past ↦ absurd (none-some birth (sym (get_or_past slots slot None past) ∙ is))
    ]

-- the owner of a birth number

pub owner_born-Some : (slots : List (Option ℕ)) (birth : ℕ) (owner : Owner)
    → owner_born slots birth ≡ Some owner → (owner.birth ≡ birth) × (get_or slots owner.slot None ≡ Some birth)
unfolding owner_born
owner_born-Some slots birth owner found = by_place (position (holds_birth birth) slots) refl found
  where
    by_place : (place : Option ℕ) → position (holds_birth birth) slots ≡ place
        → option_map (owner_at birth) place ≡ Some owner
        → (owner.birth ≡ birth) × (get_or slots owner.slot None ≡ Some birth)
    by_place None is gives = absurd (none-some owner gives)
    by_place (Some k) is gives =
        let P : Owner → Type 0 = λ o. (o.birth ≡ birth) × (get_or slots o.slot None ≡ Some birth) in
        subst P (same_Some _ _ gives)
        (refl, holds_birth-true birth _ ((position-Some (holds_birth birth) slots k None is).1))

pub owner_born-there : (slots : List (Option ℕ)) (birth slot : ℕ)
    → IsInOneSlot slots → get_or slots slot None ≡ Some birth
    → owner_born slots birth ≡ Some (owner_at birth slot)
unfolding owner_born
owner_born-there slots birth slot one is = by_place (position (holds_birth birth) slots) refl
  where
    by_place : (place : Option ℕ) → position (holds_birth birth) slots ≡ place
        → option_map (owner_at birth) place ≡ Some (owner_at birth slot)
    by_place None none =
        absurd
        (both_ways _ (position-None (holds_birth birth) slots slot None none (slot_within slots slot birth is))
        (holds_birth-Some birth _ is))
    by_place (Some k) found =
        let held = holds_birth-true birth _ ((position-Some (holds_birth birth) slots k None found).1) in
        rw (one k slot birth held is) refl

pub owner_born-None : (slots : List (Option ℕ)) (birth : ℕ)
    → ((slot : ℕ) → get_or slots slot None ≡ Some birth → ⊥) → owner_born slots birth ≡ None
owner_born-None slots birth nowhere = by_owner (owner_born slots birth) refl
  where
    by_owner : (o : Option Owner) → owner_born slots birth ≡ o → o ≡ None
    by_owner None is = refl
    by_owner (Some owner) is = absurd (nowhere owner.slot (owner_born-Some slots birth owner is).1)

-- slots that hold the birth number at the same places have the same owner of it
pub owner_born-same : (old new : List (Option ℕ)) (birth : ℕ)
    → IsInOneSlot old → IsInOneSlot new
    → ((slot : ℕ) → get_or new slot None ≡ Some birth → get_or old slot None ≡ Some birth)
    → ((slot : ℕ) → get_or old slot None ≡ Some birth → get_or new slot None ≡ Some birth)
    → owner_born new birth ≡ owner_born old birth
owner_born-same old new birth one_old one_new back forth = by_owner (owner_born old birth) refl
  where
    by_owner : (o : Option Owner) → owner_born old birth ≡ o → owner_born new birth ≡ o
    by_owner None is =
        owner_born-None new birth
        (λ slot at. none-some _ (sym is ∙ owner_born-there old birth slot one_old (back slot at)))
    by_owner (Some owner) is =
        let at = owner_born-Some old birth owner is in
        owner_born-there new birth owner.slot one_new (forth owner.slot at.1)
        ∙ ap (λ (b : ℕ). Some (owner_at b owner.slot)) (sym at.0)

-- who is alive

pub Contains-owners : (slots : List (Option ℕ)) (born : ℕ) (owner : Owner)
    → IsKept slots born → get_or slots owner.slot None ≡ Some owner.birth → Contains (owners_in slots born) owner
unfolding owners_in
Contains-owners slots born owner kept is =
    let bounds = kept.given owner.slot owner.birth is in
    Contains-given (owner_born slots) 1 born owner.birth owner (omega (arith, bounds.0)) (omega (arith, bounds.1))
    (owner_born-there slots owner.birth owner.slot kept.in_one_slot is)

pub owner_held : (slots : List (Option ℕ)) (born : ℕ) (owner : Owner)
    → Contains (owners_in slots born) owner → get_or slots owner.slot None ≡ Some owner.birth
unfolding owners_in
owner_held slots born owner there =
    let found = given_at (owner_born slots) 1 born owner there in
    let at = owner_born-Some slots found.0 owner found.2 in
    at.1 ∙ ap Some (sym at.0)

-- a slot is filled with the next birth number

module _ (old new : List (Option ℕ)) (born slot : ℕ) (kept : IsKept old born)
    (vacant : get_or old slot None ≡ None)
    (filled : get_or new slot None ≡ Some (born + 1))
    (others : (other : ℕ) → other ≢ slot → get_or new other None ≡ get_or old other None) where
  -- an older birth number stands where it stood
  older_back : (birth : ℕ) → birth ≤ born → (at : ℕ) → get_or new at None ≡ Some birth → get_or old at None ≡ Some birth
  older_back birth low at is =
      elim (cases_eq at slot) [
        | inl here ↦
            let e : born + 1 ≡ birth = same_Some _ _ (sym filled ∙ ap (λ (k : ℕ). get_or new k None) (sym here) ∙ is) in
            absurd (omega (arith, e, low))
        | inr other ↦ sym (others at other) ∙ is
      ]

  older_forth : (birth at : ℕ) → get_or old at None ≡ Some birth → get_or new at None ≡ Some birth
  older_forth birth at is =
      elim (cases_eq at slot) [
        | inl here ↦ absurd (none-some birth (sym vacant ∙ ap (λ (k : ℕ). get_or old k None) (sym here) ∙ is))
        | inr other ↦ others at other ∙ is
      ]

  filled_given : (at birth : ℕ) → get_or new at None ≡ Some birth → (0 < birth) × (birth ≤ born + 1)
  filled_given at birth is =
      elim (cases_eq at slot) [
        | inl here ↦
            let e : born + 1 ≡ birth = same_Some _ _ (sym filled ∙ ap (λ (k : ℕ). get_or new k None) (sym here) ∙ is) in
            (omega (arith, e), omega (arith, e))
        | inr other ↦
            let was = kept.given at birth (sym (others at other) ∙ is) in
            (was.0, omega (arith, was.1))
      ]

  -- the next birth number stands in that slot alone
  at_slot : (at : ℕ) → get_or new at None ≡ Some (born + 1) → at ≡ slot
  at_slot at is =
      elim (cases_eq at slot) [
        | inl here ↦ here
        | inr other ↦
            let was = kept.given at (born + 1) (sym (others at other) ∙ is) in
            absurd (omega (arith, was.1))
      ]

  filled_one : IsInOneSlot new
  filled_one one other birth first second =
      elim (cases_eq birth (born + 1)) [
        | inl newest ↦
            at_slot one (first ∙ ap Some newest) ∙ sym (at_slot other (second ∙ ap Some newest))
        | inr older ↦
            let low : birth ≤ born = omega (arith, (filled_given one birth first).1, older) in
            kept.in_one_slot one other birth (older_back birth low one first) (older_back birth low other second)
      ]

  pub owners_in-filled : owners_in new (born + 1) ≡ owners_in old born ++ owner_at (born + 1) slot ∷ []
  unfolding owners_in
  owners_in-filled =
      let older : filter_map (owner_born new) (range_with_len 1 born) ≡ filter_map (owner_born old) (range_with_len 1 born) =
      filter_map-same (owner_born old) (owner_born new) 1 born
      (λ birth low high. owner_born-same old new birth kept.in_one_slot filled_one
      (older_back birth (omega (arith, high))) (older_forth birth)) in
      let newest : owner_born new (1 + born) ≡ Some (owner_at (born + 1) slot) =
      let e : 1 + born ≡ born + 1 = omega arith in
      rw e (owner_born-there new (born + 1) slot filled_one filled) in
      ap (filter_map (owner_born new)) (ap (range_with_len 1) (add-one born) ∙ range_with_len-suc 1 born)
      ∙ filter_map-append (owner_born new) (range_with_len 1 born) ((1 + born) ∷ [])
      ∙ ap (λ (owners : List Owner). owners ++ filter_map (owner_born new) ((1 + born) ∷ [])) older
      ∙ ap (λ (o : Option Owner). filter_map (owner_born old) (range_with_len 1 born) ++ cons_option o []) newest

  pub IsKept-filled : count_by is_some new ≡ count_by is_some old + 1 → (count_by is_some old ≡ 10000 → ⊥) → IsKept new (born + 1)
  IsKept-filled more room =
      record {
        in_one_slot = filled_one;
        given = filled_given;
        counted =
            rw owners_in-filled
            (omega (arith, length-append (owners_in old born) (owner_at (born + 1) slot ∷ []), kept.counted, more));
        few = omega (arith, kept.few, more, room);
      }

-- the slot of an owner is emptied

module _ (old new : List (Option ℕ)) (born : ℕ) (owner : Owner) (kept : IsKept old born)
    (held : get_or old owner.slot None ≡ Some owner.birth)
    (emptied : get_or new owner.slot None ≡ None)
    (others : (other : ℕ) → other ≢ owner.slot → get_or new other None ≡ get_or old other None) where
  left_back : (birth at : ℕ) → get_or new at None ≡ Some birth → get_or old at None ≡ Some birth
  left_back birth at is =
      elim (cases_eq at owner.slot) [
        | inl here ↦ absurd (none-some birth (sym emptied ∙ ap (λ (k : ℕ). get_or new k None) (sym here) ∙ is))
        | inr other ↦ sym (others at other) ∙ is
      ]

  left_forth : (birth : ℕ) → birth ≢ owner.birth → (at : ℕ) → get_or old at None ≡ Some birth → get_or new at None ≡ Some birth
  left_forth birth differs at is =
      elim (cases_eq at owner.slot) [
        | inl here ↦
            absurd (differs (same_Some _ _ (sym is ∙ ap (λ (k : ℕ). get_or old k None) here ∙ held)))
        | inr other ↦ others at other ∙ is
      ]

  left_one : IsInOneSlot new
  left_one one other birth first second =
      kept.in_one_slot one other birth (left_back birth one first) (left_back birth other second)

  gone : owner_born new owner.birth ≡ None
  gone =
      owner_born-None new owner.birth
      (λ at is.
      let here : at ≡ owner.slot = kept.in_one_slot at owner.slot owner.birth (left_back owner.birth at is) held in
      none-some owner.birth (sym emptied ∙ ap (λ (k : ℕ). get_or new k None) (sym here) ∙ is))

  stays : (birth : ℕ) → birth ≢ owner.birth → owner_born new birth ≡ owner_born old birth
  stays birth differs =
      owner_born-same old new birth kept.in_one_slot left_one (left_back birth) (left_forth birth differs)

  was_there : owner_born old owner.birth ≡ Some owner
  was_there = owner_born-there old owner.birth owner.slot kept.in_one_slot held

  -- the test of the release lets another birth number pass
  passes : (other : Owner) → other.birth ≢ owner.birth → not (is_same other owner) ≡ true
  passes other differs = ap not (and_right (other.slot == owner.slot) _ (ne_eqb other.birth owner.birth differs))

  fails : not (is_same owner owner) ≡ false
  fails = ap not (and_from _ _ (eq-eqb owner.slot owner.slot refl) (eq-eqb owner.birth owner.birth refl))

  stays_kept : (birth : ℕ) → birth ≢ owner.birth
      → kept_of (λ other. not (is_same other owner)) (owner_born old birth) ≡ owner_born old birth
  stays_kept birth differs = by_owner (owner_born old birth) refl
    where
      by_owner : (o : Option Owner) → owner_born old birth ≡ o → kept_of (λ other. not (is_same other owner)) o ≡ o
      by_owner None is = refl
      by_owner (Some other) is =
          let at = owner_born-Some old birth other is in
          ap (λ (b : Bool). cond b (Some other) None) (passes other (λ e. differs (sym at.0 ∙ e)))

  pub owners_in-emptied : owners_in new born ≡ filter (λ other. not (is_same other owner)) (owners_in old born)
  unfolding owners_in
  owners_in-emptied =
      filter_map-kept (owner_born old) (owner_born new) (λ other. not (is_same other owner)) (range_with_len 1 born)
      (λ birth.
      elim (cases_eq birth owner.birth) [
        | inl here ↦
            ap (owner_born new) here ∙ gone
            ∙ sym (ap (λ (b : ℕ). kept_of (λ other. not (is_same other owner)) (owner_born old b)) here
            ∙ ap (kept_of (λ other. not (is_same other owner))) was_there
            ∙ ap (λ (b : Bool). cond b (Some owner) None) fails)
        | inr differs ↦ stays birth differs ∙ sym (stays_kept birth differs)
      ])

  pub IsKept-emptied : count_by is_some new + 1 ≡ count_by is_some old → IsKept new born
  unfolding owners_in
  IsKept-emptied less =
      let bounds = kept.given owner.slot owner.birth held in
      let shorter : length (owners_in new born) + 1 ≡ length (owners_in old born) =
      length-given_less (owner_born old) (owner_born new) 1 born owner.birth owner
      (omega (arith, bounds.0)) (omega (arith, bounds.1)) was_there gone stays in
      record {
        in_one_slot = left_one;
        given = λ at birth is. kept.given at birth (left_back birth at is);
        counted = omega (arith, kept.counted, less, shorter);
        few = omega (arith, kept.few, less);
      }

-- what the calls answer

pub is_live-Some : (slots : List (Option ℕ)) (born birth : ℕ) (owner : Owner)
    → IsKept slots born → Some birth ≡ get_or slots owner.slot None
    → IsTrue (birth == owner.birth) ↔ Contains (owners_in slots born) owner
is_live-Some slots born birth owner kept at = (
  λ same. Contains-owners slots born owner kept (sym at ∙ ap Some (eqb-true birth owner.birth same)),
  λ there. eq-eqb birth owner.birth (same_Some _ _ (at ∙ owner_held slots born owner there)),
)

pub is_live-None : (slots : List (Option ℕ)) (born : ℕ) (owner : Owner)
    → None ≡ get_or slots owner.slot None → Contains (owners_in slots born) owner → ⊥
is_live-None slots born owner at there = none-some owner.birth (at ∙ owner_held slots born owner there)

pub IsKept-nil : IsKept [] 0
unfolding owners_in
IsKept-nil =
    record {
      in_one_slot = λ one other birth first second. absurd (none-some birth first);
      given = λ slot birth is. absurd (none-some birth is);
      counted = refl;
      few = omega arith;
    }

pub owners_in-nil : owners_in [] 0 ≡ []
unfolding owners_in
owners_in-nil = refl

is_same-true : (one other : Owner) → is_same one other ≡ true → one ≡ other
is_same-true one other same =
    let parts = and_parts (one.slot == other.slot) (one.birth == other.birth) same in
    ap (λ (slot : ℕ). owner_at one.birth slot) (eqb-true _ _ parts.0)
    ∙ ap (λ (birth : ℕ). owner_at birth other.slot) (eqb-true _ _ parts.1)

-- nobody is released where the owner isn't alive
pub filter-absent : (owners : List Owner) (owner : Owner) → (Contains owners owner → ⊥)
    → filter (λ other. not (is_same other owner)) owners ≡ owners
filter-absent [] owner absent = refl
filter-absent (head ∷ rest) owner absent =
    elim (cases_Bool (is_same head owner)) [
      | inl same ↦ absurd (absent (0, omega arith, is_same-true head owner same))
      | inr differs ↦
          ap (λ (b : Bool). cond (not b) (head ∷ filter (λ other. not (is_same other owner)) rest) (filter (λ other. not (is_same other owner)) rest)) differs
          ∙ ap (λ (l : List Owner). head ∷ l) (filter-absent rest owner (λ there. absent (Contains-cons head owner rest there)))
    ]

pub IsSound-owners : (slots : List (Option ℕ)) (born : ℕ) → IsKept slots born
    → IsSound (record { living = owners_in slots born; born = born })
unfolding owners_in
IsSound-owners slots born kept =
    record {
      rising =
          AllPairs-given (λ (one other : Owner). one.birth < other.birth) (owner_born slots) 1 born
          (λ i j one other before first second.
          omega (arith, before, (owner_born-Some slots i one first).0, (owner_born-Some slots j other second).0));
      apart =
          AllPairs-given (λ (one other : Owner). one.slot ≢ other.slot) (owner_born slots) 1 born
          (λ i j one other before first second same.
          let here = (owner_born-Some slots i one first).1 in
          let there = (owner_born-Some slots j other second).1 in
          let e : i ≡ j = same_Some _ _ (sym here ∙ ap (λ (k : ℕ). get_or slots k None) same ∙ there) in
          omega (arith, e, before));
      given =
          All-weaker (Contains (owners_in slots born)) (λ (owner : Owner). owner.birth ≤ born)
          (λ owner there. (kept.given owner.slot owner.birth (owner_held slots born owner there)).1)
          (owners_in slots born) (All-contains_itself (owners_in slots born));
      born =
          All-weaker (Contains (owners_in slots born)) (λ (owner : Owner). 0 < owner.birth)
          (λ owner there. (kept.given owner.slot owner.birth (owner_held slots born owner there)).0)
          (owners_in slots born) (All-contains_itself (owners_in slots born));
      few = omega (arith, kept.counted, kept.few);
    }
