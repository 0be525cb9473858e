-- What each call keeps: 64 registrations of a node in a phase, one convenience handler of a type.
use Rattle.std.proofs.Common.{◌≡◌, ℕ, suc, ◌+◌, ◌<◌, ◌≤◌, ◌==◌, Bool, true, false, cond, ◌&&◌, not, List, [], ◌∷◌, ◌++◌, length, count_by, position, get_or, set, Option, Some, None, Result, Ok, Err, OnOk, OnErr, is_some, unwrap_or, refl, sym, ◌∙◌, ap, subst, arith, zero-add, eqb-true, eq-eqb, ltb-false, true≢false, ltb}
use Rattle.std.specs.List.{position_or_len}
use Rattle.std.proofs.lemmas.List.Sums.{sum_by-append, sum_by-set, fails_before_first}
use Rattle.std.specs.Ordering.{eq_by_cmp}
use Rattle.std.specs.FinMap.{get, get-empty, get-insert, get-remove}
use Rattle.std.proofs.lemmas.List.Quantifiers.{position-Some}
use Rattle.fx_base.specs.Answers.{IsAnswer}
use Rattle.fx_base.specs.declared.keys.NodeKey.{NodeKey}
use Rattle.fx_events.specs.declared.EventError.{EventError}
use Rattle.fx_events.specs.declared.EventError.TheVariants.{Full, Memory}
use Rattle.fx_events.specs.declared.kinds.EventKind.{EventKind}
use Rattle.fx_events.specs.declared.kinds.Phase.{Phase}
use Rattle.fx_events.specs.declared.kinds.Phase.TheVariants.{Convenience}
use Rattle.fx_events.specs.declared.registrations.Registration.{Registration}
use Rattle.fx_events.specs.Events.{is_same_phase, type_number, phase_number}
use Rattle.fx_events.specs.Keyed.{key_cmp}
use Rattle.fx_events.specs.Handlers.{HandlerMap, registrations_of, is_for, is_in, is_full, replaced_by, put_at, with_registration, nobody, add_refusal, after_add, after_forget, IsLimited, AreLimited}
use Rattle.fx_events.proofs.Maps.{key_cmp_total}

-- how many pass behind one more
count_by-push : {X : Type 0} (p : X → Bool) (xs : List X) (y : X) → count_by p (xs ++ y ∷ []) ≡ count_by p xs + cond (p y) 1 0
count_by-push p xs y = sum_by-append (λ x. cond (p x) 1 0) xs (y ∷ []) ∙ ap (λ (n : ℕ). count_by p xs + n) (zero-add (cond (p y) 1 0))

-- as many pass where one gives way that passes just as the other
count_by-set : {X : Type 0} (p : X → Bool) (xs : List X) (place : ℕ) (y : X) → place < length xs → p (get_or xs place y) ≡ p y
    → count_by p (set xs place y) ≡ count_by p xs
count_by-set p xs place y within same =
    let both = sum_by-set (λ x. cond (p x) 1 0) xs place y y within in
    let one : ◌≡◌ {A = ℕ} (cond (p (get_or xs place y)) 1 0) (cond (p y) 1 0) = ap (λ (b : Bool). cond b 1 0) same in
    omega (arith, both, one)

none_pass : {X : Type 0} (p : X → Bool) (xs : List X) (d : X) → ((k : ℕ) → k < length xs → p (get_or xs k d) ≡ false) → count_by p xs ≡ 0
none_pass p [] d fail = refl
none_pass p (x ∷ xs) d fail =
    let first : count_by p (x ∷ []) ≡ 0 = ap (λ (b : Bool). 0 + cond b 1 0) (fail 0 (omega arith)) in
    let rest : count_by p xs ≡ 0 = none_pass p xs d (λ k below. fail (suc k) (omega arith)) in
    sum_by-append (λ y. cond (p y) 1 0) (x ∷ []) xs ∙ omega (arith, first, rest)

no_place : {X : Type 0} (p : X → Bool) (xs : List X) (d : X) → position p xs ≡ None → count_by p xs ≡ 0
no_place p xs d nowhere = none_pass p xs d (λ k below. let before : k < position_or_len p xs = omega (arith, beyond) in fails_before_first p xs k d before)
  where
    by_test : (b : Bool) → cond b (Some (position_or_len p xs)) None ≡ None → b ≡ false
    by_test true e = absurd (cc)
    by_test false e = refl

    beyond : length xs ≤ position_or_len p xs
    beyond = ltb-false (position_or_len p xs) (length xs) (by_test (ltb (position_or_len p xs) (length xs)) nowhere)

given : (b : Bool) (o : Option ℕ) (place : ℕ) → cond b o None ≡ Some place → (b ≡ true) × (o ≡ Some place)
given true o place e = (refl, e)
given false o place e = absurd (cc)

both_true : (a b : Bool) → (a && b) ≡ true → (a ≡ true) × (b ≡ true)
both_true true b e = (refl, e)
both_true false b e = absurd (cc)

without_true : (b : Bool) → (b && true) ≡ false → b ≡ false
without_true true e = e
without_true false e = refl

-- the one that gives way is a convenience handler of the same type, and so is the new one
record GivesWay (new : Registration) (registrations : List Registration) (place : ℕ) : Type 0 where
  within : place < length registrations
  type : type_number (get_or registrations place new).on ≡ type_number new.on
  former : phase_number (get_or registrations place new).phase ≡ 2
  later : phase_number new.phase ≡ 2

gives_way : (new : Registration) (registrations : List Registration) (place : ℕ) → replaced_by new registrations ≡ Some place → GivesWay new registrations place
gives_way new registrations place e =
    let found = given (is_same_phase new.phase Convenience) (position (is_for new.on Convenience) registrations) place e in
    let there = position-Some (is_for new.on Convenience) registrations place new found.1 in
    let same =
    both_true (type_number (get_or registrations place new).on == type_number new.on) (phase_number (get_or registrations place new).phase == 2) there.1 in
    record {
      within = there.0;
      type = eqb-true _ _ same.0;
      former = eqb-true _ _ same.1;
      later = eqb-true _ _ found.0;
    }

fits_in_phase : (phase : Phase) (new : Registration) (registrations : List Registration) → is_full new registrations ≡ false
    → count_by (is_in phase) registrations ≤ 64 → count_by (is_in phase) (with_registration new registrations) ≤ 64
fits_in_phase phase new registrations fits few = by_place (replaced_by new registrations) refl
  where
    by_test : (b : Bool) → is_in phase new ≡ b → replaced_by new registrations ≡ None → count_by (is_in phase) registrations + cond b 1 0 ≤ 64
    by_test false e nowhere = omega (arith, few)
    by_test true e nowhere =
        let same : phase_number new.phase ≡ phase_number phase = eqb-true _ _ e in
        let as_many : count_by (is_in new.phase) registrations ≡ count_by (is_in phase) registrations =
        ap (λ (n : ℕ). count_by (λ (r : Registration). phase_number r.phase == n) registrations) same in
        let room : (count_by (is_in new.phase) registrations == 64) ≡ false =
        without_true _
        (sym (ap (λ (o : Option ℕ). (count_by (is_in new.phase) registrations == 64) && not (is_some o)) nowhere) ∙ fits) in
        let less : count_by (is_in phase) registrations ≡ 64 → ⊥ =
        λ full. absurd (true≢false (sym (eq-eqb _ _ (as_many ∙ full)) ∙ room)) in
        omega (arith, few, less)

    by_place : (o : Option ℕ) → replaced_by new registrations ≡ o → count_by (is_in phase) (put_at o new registrations) ≤ 64
    by_place None nowhere =
        let more = count_by-push (is_in phase) registrations new in
        let within = by_test (is_in phase new) refl nowhere in
        omega (arith, more, within)
    by_place (Some place) e =
        let way = gives_way new registrations place e in
        let same : is_in phase (get_or registrations place new) ≡ is_in phase new =
        ap (λ (n : ℕ). n == phase_number phase) (way.former ∙ sym way.later) in
        let kept_count = count_by-set (is_in phase) registrations place new way.within same in
        omega (arith, few, kept_count)

stays_single : (on : EventKind) (new : Registration) (registrations : List Registration) → is_full new registrations ≡ false
    → count_by (is_for on Convenience) registrations ≤ 1 → count_by (is_for on Convenience) (with_registration new registrations) ≤ 1
stays_single on new registrations fits single = by_place (replaced_by new registrations) refl
  where
    by_test : (b : Bool) → is_for on Convenience new ≡ b → replaced_by new registrations ≡ None
        → count_by (is_for on Convenience) registrations + cond b 1 0 ≤ 1
    by_test false e nowhere = omega (arith, single)
    by_test true e nowhere =
        let parts = both_true (type_number new.on == type_number on) (phase_number new.phase == 2) e in
        let of_type : type_number new.on ≡ type_number on = eqb-true _ _ parts.0 in
        let searched : position (is_for new.on Convenience) registrations ≡ None =
        sym (ap (λ (b : Bool). cond b (position (is_for new.on Convenience) registrations) None) parts.1) ∙ nowhere in
        let absent : count_by (is_for on Convenience) registrations ≡ 0 =
        sym (ap (λ (n : ℕ). count_by (λ (r : Registration). (type_number r.on == n) && (phase_number r.phase == 2)) registrations) of_type)
        ∙ no_place (is_for new.on Convenience) registrations new searched in
        omega (arith, absent)

    by_place : (o : Option ℕ) → replaced_by new registrations ≡ o → count_by (is_for on Convenience) (put_at o new registrations) ≤ 1
    by_place None nowhere =
        let more = count_by-push (is_for on Convenience) registrations new in
        let within = by_test (is_for on Convenience new) refl nowhere in
        omega (arith, more, within)
    by_place (Some place) e =
        let way = gives_way new registrations place e in
        let same : is_for on Convenience (get_or registrations place new) ≡ is_for on Convenience new =
        λ i. (way.type i == type_number on) && ((way.former ∙ sym way.later) i == 2) in
        let kept_count = count_by-set (is_for on Convenience) registrations place new way.within same in
        omega (arith, single, kept_count)

limited_more : (new : Registration) (registrations : List Registration) → is_full new registrations ≡ false
    → IsLimited registrations → IsLimited (with_registration new registrations)
limited_more new registrations fits limited =
    record {
      few = λ phase. fits_in_phase phase new registrations fits (limited.few phase);
      single = λ on. stays_single on new registrations fits (limited.single on);
    }

limited_none : IsLimited []
limited_none = record { few = λ phase. omega arith; single = λ on. omega arith }

pub limited_nobody : AreLimited nobody
limited_nobody key = subst IsLimited (sym (ap (λ (o : Option (List Registration)). unwrap_or o []) (get-empty key_cmp key))) limited_none

limited_added : (handlers : HandlerMap) (other : NodeKey) (new : Registration) → is_full new (registrations_of handlers other) ≡ false
    → AreLimited handlers → AreLimited (after_add handlers other new)
limited_added handlers other new fits limited key =
    subst IsLimited (sym (ap (λ (o : Option (List Registration)). unwrap_or o []) (get-insert key_cmp_total handlers other (with_registration new (registrations_of handlers other)) key)))
    (by_test (eq_by_cmp key_cmp key other))
  where
    by_test : (b : Bool) → IsLimited (unwrap_or (cond b (Some (with_registration new (registrations_of handlers other))) (get handlers key)) [])
    by_test true = limited_more new (registrations_of handlers other) fits (limited other)
    by_test false = limited key

pub limited_forgotten : (handlers : HandlerMap) (other : NodeKey) → AreLimited handlers → AreLimited (after_forget handlers other)
limited_forgotten handlers other limited key =
    subst IsLimited (sym (ap (λ (o : Option (List Registration)). unwrap_or o []) (get-remove key_cmp_total handlers other key)))
    (by_test (eq_by_cmp key_cmp key other))
  where
    by_test : (b : Bool) → IsLimited (unwrap_or (cond b None (get handlers key)) [])
    by_test true = limited_none
    by_test false = limited key

not_full : (full : Bool) (done : Unit {0}) → IsAnswer Memory (cond full (Some Full) None) (Ok done) → full ≡ false
not_full true done answer = absurd answer
not_full false done answer = refl

-- whatever is answered
pub limited_after : (old now : HandlerMap) (key : NodeKey) (new : Registration) (result : Result (Unit {0}) EventError) → AreLimited old
    → IsAnswer Memory (add_refusal new (registrations_of old key)) result → OnOk result (now ≡ after_add old key new) → OnErr result (now ≡ old)
    → AreLimited now
limited_after old now key new (Ok done) limited answer ok err =
    subst AreLimited (sym ok) (limited_added old key new (not_full (is_full new (registrations_of old key)) done answer) limited)
limited_after old now key new (Err error) limited answer ok err = subst AreLimited (sym err) limited
