-- Over every list of calls numbers are given once, and pruning changes nobody who is live later.
use Rattle.std.proofs.Common.{◌≡◌, ℕ, ◌+◌, ◌&&◌, leb, List, [], ◌∷◌, ◌++◌, length, refl, sym, ◌∙◌, ap, inl, inr, add-one, arith, length-append}
use Rattle.std.specs.List.{range_with_len}
use Rattle.std.proofs.lemmas.Bool.{and_from, and_right, cases_Bool, cond_both}
use Rattle.fx_handles.proofs.Given.{range_with_len-suc}
use Rattle.fx_listen.specs.declared.entries.Listener.{Listener}
use Rattle.fx_listen.specs.Laws.{EachNumberOnce, LeadsTo, PruningIsSilent, none, added, removed, forgotten, all_forgotten}
use Rattle.fx_listen.specs.Listening.{Table, is_live, living_in, nobody, numbers_of}
use Rattle.fx_listen.proofs.Cuts.{filter-filter, filter-same}

numbers_of-push : (listeners : List Listener) (last : Listener)
    → numbers_of (listeners ++ last ∷ []) ≡ numbers_of listeners ++ last.number ∷ []
numbers_of-push [] last = refl
numbers_of-push (first ∷ rest) last = ap (λ (l : List ℕ). first.number ∷ l) (numbers_of-push rest last)

given_is : (listeners : List Listener) (table : Table) → LeadsTo nobody listeners table → table.given ≡ length listeners
given_is _ _ none = refl
given_is _ _ (added {listeners} {table} living listener next before) =
    omega (arith, next, given_is listeners table before, length-append listeners (listener ∷ []))
given_is _ _ (removed {listeners} {table} test before) = given_is listeners table before
given_is _ _ (forgotten {listeners} {table} name before) = given_is listeners table before
given_is _ _ (all_forgotten {listeners} {table} names before) = given_is listeners table before

pub each_number_once : EachNumberOnce
each_number_once _ _ none = refl
each_number_once _ _ (added {listeners} {table} living listener next before) =
    let last : listener.number ≡ 1 + length listeners = omega (arith, next, given_is listeners table before) in
    let more : length (listeners ++ listener ∷ []) ≡ length listeners + 1 = omega (arith, length-append listeners (listener ∷ [])) in
    numbers_of-push listeners listener
    ∙ ap (λ (l : List ℕ). l ++ listener.number ∷ []) (each_number_once listeners table before)
    ∙ ap (λ (n : ℕ). range_with_len 1 (length listeners) ++ n ∷ []) last
    ∙ sym (ap (range_with_len 1) (more ∙ add-one (length listeners)) ∙ range_with_len-suc 1 (length listeners))
each_number_once _ _ (removed {listeners} {table} test before) = each_number_once listeners table before
each_number_once _ _ (forgotten {listeners} {table} name before) = each_number_once listeners table before
each_number_once _ _ (all_forgotten {listeners} {table} names before) = each_number_once listeners table before

pub pruning_is_silent : PruningIsSilent
pruning_is_silent living later entries lived =
    cond_both (leb 10000 (length entries)) (living_in living entries) entries
    (λ (l : List Listener). living_in later l ≡ living_in later entries)
    (λ _.
    filter-filter (is_live later) (is_live living) entries
    ∙ filter-same (λ (l : Listener). is_live living l && is_live later l) (is_live later) entries
    (λ l there.
    elim (cases_Bool (is_live later l)) [
      | inl lives ↦ and_from _ _ (lived l there lives) lives ∙ sym lives
      | inr dead ↦ and_right _ _ dead ∙ sym dead
    ]))
    (λ _. refl)
