-- What is left where pairs or listeners are taken out, where an owner is released, and where one listener is added.
use Rattle.std.proofs.Common.{◌≡◌, ℕ, ◌==◌, ◌≤◌, ◌⊎◌, nat_le, Bool, true, false, not, cond, List, [], ◌∷◌, length, filter, Contains, Some, arith, sym, subst, ap, inl, inr, ◌∙◌}
use Rattle.std.proofs.lemmas.Bool.{and_parts, cases_Bool, cond_both, eqb-true, or_cases, or_left, or_right}
use Rattle.std.proofs.lemmas.List.Elements.{All-contains, All-filter, Contains-append_cases}
use Rattle.fx_store_model.specs.Stored.{is_heard}
use Rattle.fx_handles.specs.declared.Owner.{Owner}
use Rattle.fx_handles.specs.Living.{Register, after_release}
use Rattle.fx_listen.specs.declared.entries.Listener.{Listener}
use Rattle.fx_listen.specs.declared.entries.ListenKind.TheVariants.{Change}
use Rattle.fx_listen.specs.Listening.{is_live, living_in, placed, pruned, same_kind, same_owner, tells, without_first}
use Rattle.fx_listen.specs.Sorting.{is_above, is_upto}
use Rattle.fx_listen.proofs.LivingLemmas.{living_in-released}
use Rattle.fx_store_pairs.specs.Pairs.{is_pair, is_paired, without_pair}
use Rattle.fx_graph_model.specs.declared.entries.Entry.{Entry}
use Rattle.fx_graph_model.specs.Unread.{marked}
use Rattle.fx_graph_model.specs.Uses.{unknown_in}
use Rattle.fx_graph_model.proofs.Members.{any_at, any_from, contains_cases, contains_first, contains_later, filter_contains}
use Rattle.fx_store.specs.Kept.{AreAllRead, AreOnKnown, ArePaired, AreTwins}
use Rattle.fx_store.proofs.Twins.{all_from}
use Rattle.fx_store.proofs.Watched.{read_subset, watch_watches, watches_watch}

pub length-filter_fewer : {X : Type 0} (test : X → Bool) (xs : List X) → length (filter test xs) ≤ length xs
length-filter_fewer test [] = omega arith
length-filter_fewer test (x ∷ xs) =
    let rest : length (filter test xs) ≤ length xs = length-filter_fewer test xs in
    elim (cases_Bool (test x)) [
      | inl passes ↦ rw passes (omega arith)
      | inr fails ↦ rw fails (omega arith)
    ]

-- pairs

pub without_pair_fewer : (one other : ℕ) (pairs : List (ℕ × ℕ)) (pair : ℕ × ℕ) → Contains (without_pair one other pairs) pair
    → Contains pairs pair
without_pair_fewer one other [] pair c = c
without_pair_fewer one other (first ∷ pairs) pair c = by_first (without_pair_fewer one other pairs pair) (cases_Bool (is_pair one other first))
  where
    P : Bool → Type 0
    P b = Contains (cond b pairs (first ∷ without_pair one other pairs)) pair

    by_first : (Contains (without_pair one other pairs) pair → Contains pairs pair)
        → (is_pair one other first ≡ true) ⊎ (is_pair one other first ≡ false) → Contains (first ∷ pairs) pair
    by_first rest (inl here) = contains_later first pairs pair (subst P here c)
    by_first rest (inr elsewhere) =
        elim (contains_cases first (without_pair one other pairs) pair (subst P elsewhere c)) [
          | inl same ↦ subst (Contains (first ∷ pairs)) same (contains_first first pairs)
          | inr later ↦ contains_later first pairs pair (rest later)
        ]

pub length-without_pair : (one other : ℕ) (pairs : List (ℕ × ℕ)) → length (without_pair one other pairs) ≤ length pairs
length-without_pair one other [] = omega arith
length-without_pair one other (pair ∷ pairs) =
    let rest : length (without_pair one other pairs) ≤ length pairs = length-without_pair one other pairs in
    elim (cases_Bool (is_pair one other pair)) [
      | inl here ↦ rw here (omega arith)
      | inr elsewhere ↦ rw elsewhere (omega arith)
    ]

pub paired_fewer : (es : List Entry) (pairs some : List (ℕ × ℕ)) → ((pair : ℕ × ℕ) → Contains some pair → Contains pairs pair)
    → ArePaired es pairs → ArePaired es some
paired_fewer es pairs some fewer paired =
    all_from (λ (p : ℕ × ℕ). AreTwins es p.0 p.1) some
    (λ p c. All-contains (λ (q : ℕ × ℕ). AreTwins es q.0 q.1) pairs p paired (fewer p c))

pub paired_without : (es : List Entry) (pairs : List (ℕ × ℕ)) (one other : ℕ) → ArePaired es pairs
    → ArePaired es (without_pair one other pairs)
paired_without es pairs one other paired =
    paired_fewer es pairs (without_pair one other pairs) (without_pair_fewer one other pairs) paired

pub read_unpaired : (pairs : List (ℕ × ℕ)) (one other : ℕ) (listeners : List Listener) (flags : List Bool)
    → AreAllRead pairs listeners flags → AreAllRead (without_pair one other pairs) listeners flags
read_unpaired pairs one other listeners flags read =
    read_subset pairs (without_pair one other pairs) listeners listeners flags (without_pair_fewer one other pairs) (λ l c. c) read

-- listeners

pub without_first_fewer : (test : Listener → Bool) (listeners : List Listener) (listener : Listener)
    → Contains (without_first test listeners) listener → Contains listeners listener
without_first_fewer test [] listener c = c
without_first_fewer test (first ∷ listeners) listener c = by_first (without_first_fewer test listeners listener) (cases_Bool (test first))
  where
    P : Bool → Type 0
    P b = Contains (cond b listeners (first ∷ without_first test listeners)) listener

    by_first : (Contains (without_first test listeners) listener → Contains listeners listener)
        → (test first ≡ true) ⊎ (test first ≡ false) → Contains (first ∷ listeners) listener
    by_first rest (inl passes) = contains_later first listeners listener (subst P passes c)
    by_first rest (inr fails) =
        elim (contains_cases first (without_first test listeners) listener (subst P fails c)) [
          | inl same ↦ subst (Contains (first ∷ listeners)) same (contains_first first listeners)
          | inr later ↦ contains_later first listeners listener (rest later)
        ]

pub placed_cases : (listener : Listener) (listeners : List Listener) (other : Listener) → Contains (placed listener listeners) other
    → (listener ≡ other) ⊎ Contains listeners other
placed_cases listener listeners other c =
    let name : ℕ = listener.name.0 in
    let above : List Listener = filter (is_above name) listeners in
    elim (Contains-append_cases (filter (is_upto name) listeners) (listener ∷ above) other c) [
      | inl before ↦ inr (filter_contains (is_upto name) listeners other before).0
      | inr rest ↦
          elim (contains_cases listener above other rest) [
            | inl here ↦ inl here
            | inr behind ↦ inr (filter_contains (is_above name) listeners other behind).0
          ]
    ]

pub known_fewer : (es : List Entry) (listeners some : List Listener)
    → ((listener : Listener) → Contains some listener → Contains listeners listener)
    → AreOnKnown es listeners → AreOnKnown es some
known_fewer es listeners some fewer known =
    all_from (λ (l : Listener). unknown_in es l.name.0 ≡ false) some
    (λ l c. All-contains (λ (m : Listener). unknown_in es m.name.0 ≡ false) listeners l known (fewer l c))

pub known_removed : (es : List Entry) (test : Listener → Bool) (listeners : List Listener) → AreOnKnown es listeners
    → AreOnKnown es (without_first test listeners)
known_removed es test listeners known =
    known_fewer es listeners (without_first test listeners) (without_first_fewer test listeners) known

pub known_placed : (es : List Entry) (listener : Listener) (listeners : List Listener) → unknown_in es listener.name.0 ≡ false
    → AreOnKnown es listeners → AreOnKnown es (placed listener listeners)
known_placed es listener listeners new known =
    all_from (λ (l : Listener). unknown_in es l.name.0 ≡ false) (placed listener listeners)
    (λ l c. by_case l (placed_cases listener listeners l c))
  where
    by_case : (l : Listener) → (listener ≡ l) ⊎ Contains listeners l → unknown_in es l.name.0 ≡ false
    by_case l (inl here) = subst (λ (m : Listener). unknown_in es m.name.0 ≡ false) here new
    by_case l (inr old) = All-contains (λ (m : Listener). unknown_in es m.name.0 ≡ false) listeners l known old

pub known_pruned : (es : List Entry) (living : List Owner) (listeners : List Listener) → AreOnKnown es listeners
    → AreOnKnown es (pruned living listeners)
known_pruned es living listeners known =
    cond_both (nat_le 10000 (length listeners)) (living_in living listeners) listeners (AreOnKnown es)
    (λ _. All-filter (is_live living) (λ (l : Listener). unknown_in es l.name.0 ≡ false) listeners known) (λ _. known)

-- one listener more, on a property that is read
pub read_placed : (pairs : List (ℕ × ℕ)) (listener : Listener) (listeners : List Listener) (flags : List Bool)
    → marked flags listener.name.0 ≡ false → AreAllRead pairs listeners flags → AreAllRead pairs (placed listener listeners) flags
read_placed pairs listener listeners flags off read name c =
    by_case (or_cases (is_paired pairs name) (is_heard (placed listener listeners) name) (watch_watches pairs (placed listener listeners) name c))
  where
    old : Listener → Type 0
    old l = Contains listeners l

    at : (l : Listener) → tells name Change l ≡ true → (listener ≡ l) ⊎ old l → marked flags name ≡ false
    at l told (inl here) =
        subst (λ n. marked flags n ≡ false)
        (ap (λ (m : Listener). m.name.0) here ∙ eqb-true l.name.0 name (and_parts (l.name.0 == name) (same_kind l.kind Change) told).0) off
    at l told (inr there) =
        read name (watches_watch pairs listeners name (or_right _ _ (any_at (tells name Change) listeners l there told)))

    by_case : (is_paired pairs name ≡ true) ⊎ (is_heard (placed listener listeners) name ≡ true) → marked flags name ≡ false
    by_case (inl paired) = read name (watches_watch pairs listeners name (or_left _ _ paired))
    by_case (inr heard) =
        let found = any_from (tells name Change) (placed listener listeners) heard in
        at found.0 found.2 (placed_cases listener listeners found.0 found.1)

pub read_removed : (pairs : List (ℕ × ℕ)) (test : Listener → Bool) (listeners : List Listener) (flags : List Bool)
    → AreAllRead pairs listeners flags → AreAllRead pairs (without_first test listeners) flags
read_removed pairs test listeners flags read =
    read_subset pairs pairs listeners (without_first test listeners) flags (λ p c. c) (without_first_fewer test listeners) read

pub read_filtered : (pairs : List (ℕ × ℕ)) (keep : ℕ × ℕ → Bool) (listeners : List Listener) (left : Listener → Bool) (flags : List Bool)
    → AreAllRead pairs listeners flags → AreAllRead (filter keep pairs) (filter left listeners) flags
read_filtered pairs keep listeners left flags read =
    read_subset pairs (filter keep pairs) listeners (filter left listeners) flags
    (λ p c. (filter_contains keep pairs p c).0) (λ l c. (filter_contains left listeners l c).0) read

-- an owner is released
pub read_released : (pairs : List (ℕ × ℕ)) (register : Register) (owner : Owner) (listeners : List Listener) (flags : List Bool)
    → AreAllRead pairs (living_in register.living listeners) flags
    → AreAllRead pairs (living_in (after_release register owner).living listeners) flags
read_released pairs register owner listeners flags read =
    let left : Listener → Bool = λ l. not (same_owner l.owner (Some owner)) in
    let now : List Listener = living_in register.living listeners in
    subst (λ ls. AreAllRead pairs ls flags) (sym (living_in-released register owner listeners))
    (read_subset pairs pairs now (filter left now) flags (λ p c. c) (λ l c. (filter_contains left now l c).0) read)
