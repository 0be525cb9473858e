-- Names that are watched: the list that a step reads has just those that are in a pair or have a change listener.
use Rattle.std.proofs.Common.{sym, ◌≡◌, ℕ, ◌==◌, ◌<◌, ◌⊎◌, Bool, true, false, not, ◌||◌, List, [], ◌∷◌, filter, length, Contains, refl, subst, ap, inl, inr, ◌∙◌, All, append_assoc, ◌++◌}
use Rattle.std.specs.List.{range_with_len}
use Rattle.std.proofs.lemmas.Bool.{and_from, and_parts, and_right, both_ways, eq-eqb, eqb-true, false_from_ne_true, or_cases, or_left, or_right}
use Rattle.std.proofs.lemmas.List.Elements.{All-contains, Contains-append_cases, Contains-append_left, Contains-append_right}
use Rattle.std.proofs.lemmas.List.Concat.{flat_map-append}
use Rattle.fx_base.specs.declared.keys.Name.{Name}
use Rattle.fx_store_model.specs.Stored.{Stored, after_watching, is_heard, watched_names, with_unread}
use Rattle.fx_listen.specs.declared.entries.Listener.{Listener}
use Rattle.fx_listen.specs.declared.entries.ListenKind.TheVariants.{Change}
use Rattle.fx_listen.specs.Listening.{same_kind, tells}
use Rattle.fx_store_pairs.specs.Pairs.{is_end, is_paired}
use Rattle.fx_graph_model.specs.declared.entries.Entry.{Entry}
use Rattle.fx_graph_model.specs.Unread.{IsClosed, after_reads, marked}
use Rattle.fx_graph_model.specs.Uses.{leads, unknown_in}
use Rattle.fx_graph_model.proofs.Changed.{known_within}
use Rattle.fx_graph_model.proofs.ManyReads.{marked-reads, reached-at, reads_again}
use Rattle.fx_graph_model.proofs.Members.{any_at, any_from, contains_cases, contains_filter, contains_first, contains_later, contains_map, filter_contains, in_range, map_contains, none_in_nil}
use Rattle.fx_store.specs.Kept.{AreAllRead, AreOnKnown, ArePaired}
use Rattle.fx_store.specs.Watching.{ends_of, heard_of, names_of, told_as, watch_list}
use Rattle.fx_store.proofs.Twins.{all_from, paired_known}

-- it is in a pair or has a change listener
abbrev pub watches : List (ℕ × ℕ) → List Listener → ℕ → Bool
watches pairs listeners name = is_paired pairs name || is_heard listeners name

-- ends of pairs

ends_paired : (pairs : List (ℕ × ℕ)) (name : ℕ) → Contains (ends_of pairs) name → is_paired pairs name ≡ true
ends_paired [] name c = absurd (none_in_nil name c)
ends_paired (pair ∷ pairs) name c =
    elim (contains_cases pair.0 (pair.1 ∷ ends_of pairs) name c) [
      | inl first ↦ or_left _ _ (or_left _ _ (eq-eqb pair.0 name first))
      | inr rest ↦
          elim (contains_cases pair.1 (ends_of pairs) name rest) [
            | inl second ↦ or_left _ _ (or_right _ _ (eq-eqb pair.1 name second))
            | inr later ↦ or_right _ _ (ends_paired pairs name later)
          ]
    ]

paired_ends : (pairs : List (ℕ × ℕ)) (name : ℕ) → is_paired pairs name ≡ true → Contains (ends_of pairs) name
paired_ends [] name e = absurd (cc)
paired_ends (pair ∷ pairs) name e =
    let all : List ℕ = pair.1 ∷ ends_of pairs in
    elim (or_cases (is_end name pair) (is_paired pairs name) e) [
      | inl here ↦
          elim (or_cases (pair.0 == name) (pair.1 == name) here) [
            | inl first ↦ subst (Contains (pair.0 ∷ all)) (eqb-true pair.0 name first) (contains_first pair.0 all)
            | inr second ↦
                contains_later pair.0 all name
                (subst (Contains all) (eqb-true pair.1 name second) (contains_first pair.1 (ends_of pairs)))
          ]
      | inr later ↦ contains_later pair.0 all name (contains_later pair.1 (ends_of pairs) name (paired_ends pairs name later))
    ]

-- properties of change listeners

abbrev hears : Listener → Bool
hears listener = same_kind listener.kind Change

names_heard : (listeners : List Listener) (name : ℕ) → Contains (names_of (heard_of listeners)) name → is_heard listeners name ≡ true
names_heard listeners name c =
    let to = map_contains (λ (to : Name × ℕ). to.0.0) (heard_of listeners) name c in
    let found = map_contains told_as (filter hears listeners) to.0 to.1 in
    let member = filter_contains hears listeners found.0 found.1 in
    any_at (tells name Change) listeners found.0 member.0
    (and_from _ _ (eq-eqb found.0.name.0 name (ap (λ (to : Name × ℕ). to.0.0) found.2 ∙ to.2)) member.1)

heard_names : (listeners : List Listener) (name : ℕ) → is_heard listeners name ≡ true → Contains (names_of (heard_of listeners)) name
heard_names listeners name e =
    let found = any_from (tells name Change) listeners e in
    let parts = and_parts (found.0.name.0 == name) (same_kind found.0.kind Change) found.2 in
    subst (Contains (names_of (heard_of listeners))) (eqb-true found.0.name.0 name parts.0)
    (contains_map (λ (to : Name × ℕ). to.0.0) (heard_of listeners) (told_as found.0)
    (contains_map told_as (filter hears listeners) found.0 (contains_filter hears listeners found.0 found.1 parts.1)))

-- the list and the test

pub watch_watches : (pairs : List (ℕ × ℕ)) (listeners : List Listener) (name : ℕ) → Contains (watch_list pairs listeners) name
    → watches pairs listeners name ≡ true
watch_watches pairs listeners name c =
    elim (Contains-append_cases (names_of (heard_of listeners)) (ends_of pairs) name c) [
      | inl heard ↦ or_right _ _ (names_heard listeners name heard)
      | inr paired ↦ or_left _ _ (ends_paired pairs name paired)
    ]

pub watches_watch : (pairs : List (ℕ × ℕ)) (listeners : List Listener) (name : ℕ) → watches pairs listeners name ≡ true
    → Contains (watch_list pairs listeners) name
watches_watch pairs listeners name e =
    elim (or_cases (is_paired pairs name) (is_heard listeners name) e) [
      | inl paired ↦
          Contains-append_right (names_of (heard_of listeners)) (ends_of pairs) name (paired_ends pairs name paired)
      | inr heard ↦
          Contains-append_left (names_of (heard_of listeners)) (ends_of pairs) name (heard_names listeners name heard)
    ]

pub watch_watched : (stored : Stored) (name : ℕ) → Contains (watch_list stored.pairs stored.listeners) name
    → name < length stored.entries → Contains (watched_names stored) name
watch_watched stored name c within =
    contains_filter (watches stored.pairs stored.listeners) (range_with_len 0 (length stored.entries)) name
    (in_range (length stored.entries) name within) (watch_watches stored.pairs stored.listeners name c)

pub watched_watch : (stored : Stored) (name : ℕ) → Contains (watched_names stored) name
    → Contains (watch_list stored.pairs stored.listeners) name
watched_watch stored name c =
    watches_watch stored.pairs stored.listeners name
    (filter_contains (watches stored.pairs stored.listeners) (range_with_len 0 (length stored.entries)) name c).1

-- each change listener is on a known property
pub heard_known : (es : List Entry) (listeners : List Listener) → AreOnKnown es listeners → (name : ℕ) → is_heard listeners name ≡ true
    → unknown_in es name ≡ false
heard_known es listeners known name e =
    let found = any_from (tells name Change) listeners e in
    let parts = and_parts (found.0.name.0 == name) (same_kind found.0.kind Change) found.2 in
    subst (λ n. unknown_in es n ≡ false) (eqb-true found.0.name.0 name parts.0)
    (All-contains (λ (l : Listener). unknown_in es l.name.0 ≡ false) listeners found.0 known found.1)

watched_known : (es : List Entry) (pairs : List (ℕ × ℕ)) (listeners : List Listener) → ArePaired es pairs → AreOnKnown es listeners
    → (name : ℕ) → Contains (watch_list pairs listeners) name → unknown_in es name ≡ false
watched_known es pairs listeners paired known name c =
    elim (or_cases (is_paired pairs name) (is_heard listeners name) (watch_watches pairs listeners name c)) [
      | inl in_pair ↦ paired_known es pairs paired name in_pair
      | inr heard ↦ heard_known es listeners known name heard
    ]

pub watch_within : (es : List Entry) (pairs : List (ℕ × ℕ)) (listeners : List Listener) → ArePaired es pairs → AreOnKnown es listeners
    → (name : ℕ) → Contains (watch_list pairs listeners) name → name < length es
watch_within es pairs listeners paired known name c =
    known_within es name (watched_known es pairs listeners paired known name c)

pub watch_known : (es : List Entry) (pairs : List (ℕ × ℕ)) (listeners : List Listener) → ArePaired es pairs → AreOnKnown es listeners
    → All (λ (name : ℕ). unknown_in es name ≡ false) (watch_list pairs listeners)
watch_known es pairs listeners paired known =
    all_from (λ (name : ℕ). unknown_in es name ≡ false) (watch_list pairs listeners) (watched_known es pairs listeners paired known)

-- one pair more
pub watch_list-push : (pairs : List (ℕ × ℕ)) (listeners : List Listener) (one other : ℕ)
    → watch_list (pairs ++ (one, other) ∷ []) listeners ≡ watch_list pairs listeners ++ one ∷ other ∷ []
watch_list-push pairs listeners one other =
    ap (λ ns. names_of (heard_of listeners) ++ ns)
    (flat_map-append (λ (pair : ℕ × ℕ). pair.0 ∷ pair.1 ∷ []) pairs ((one, other) ∷ []))
    ∙ sym (append_assoc (names_of (heard_of listeners)) (ends_of pairs) (one ∷ other ∷ []))

-- where all is read

pub watching_again : (stored : Stored) → AreAllRead stored.pairs stored.listeners stored.unread → IsClosed stored.entries stored.unread
    → after_watching stored ≡ stored
watching_again stored read closed =
    ap (λ (flags : List Bool). with_unread flags stored)
    (reads_again stored.entries (watched_names stored) stored.unread closed (λ name c. read name (watched_watch stored name c)))

pub leads_itself : (es : List Entry) (name : ℕ) → leads es name name ≡ true
unfolding leads
leads_itself es name = or_left _ _ (eq-eqb name name refl)

-- what was read is read
pub reads_off : (es : List Entry) (names : List ℕ) (flags : List Bool) (name : ℕ) → Contains names name
    → marked (after_reads es names flags) name ≡ false
reads_off es names flags name c =
    marked-reads es names flags name
    ∙ and_right (marked flags name) _ (ap not (reached-at es names name name c (leads_itself es name)))

-- fewer flags, and fewer that watch

pub read_fewer : (pairs : List (ℕ × ℕ)) (listeners : List Listener) (flags now : List Bool)
    → ((name : ℕ) → marked now name ≡ true → marked flags name ≡ true)
    → AreAllRead pairs listeners flags → AreAllRead pairs listeners now
read_fewer pairs listeners flags now fewer read name c = off (read name c) (fewer name)
  where
    off : marked flags name ≡ false → (marked now name ≡ true → marked flags name ≡ true) → marked now name ≡ false
    off was only = false_from_ne_true (marked now name) (λ on. both_ways (marked flags name) was (only on))

pub watch_fewer : (pairs some : List (ℕ × ℕ)) (listeners others : List Listener)
    → ((pair : ℕ × ℕ) → Contains some pair → Contains pairs pair)
    → ((listener : Listener) → Contains others listener → Contains listeners listener)
    → (name : ℕ) → Contains (watch_list some others) name → Contains (watch_list pairs listeners) name
watch_fewer pairs some listeners others fewer less name c =
    watches_watch pairs listeners name (by_case (or_cases _ _ (watch_watches some others name c)))
  where
    by_case : (is_paired some name ≡ true) ⊎ (is_heard others name ≡ true) → watches pairs listeners name ≡ true
    by_case (inl paired) =
        let found = any_from (is_end name) some paired in
        or_left _ _ (any_at (is_end name) pairs found.0 (fewer found.0 found.1) found.2)
    by_case (inr heard) =
        let found = any_from (tells name Change) others heard in
        or_right _ _ (any_at (tells name Change) listeners found.0 (less found.0 found.1) found.2)

pub read_subset : (pairs some : List (ℕ × ℕ)) (listeners others : List Listener) (flags : List Bool)
    → ((pair : ℕ × ℕ) → Contains some pair → Contains pairs pair)
    → ((listener : Listener) → Contains others listener → Contains listeners listener)
    → AreAllRead pairs listeners flags → AreAllRead some others flags
read_subset pairs some listeners others flags fewer less read name c =
    read name (watch_fewer pairs some listeners others fewer less name c)
