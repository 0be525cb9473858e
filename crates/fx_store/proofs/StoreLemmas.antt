-- What is seen of the store at the calls that change or ask one part of it.
use Rattle.std.proofs.Common.{◌≡◌, ℕ, ◌+◌, ◌≤◌, ◌||◌, ◌&&◌, Bool, true, false, cond, List, [], ◌∷◌, All, refl, ap, ◌∙◌}
use Rattle.std.specs.List.{list_any}
use Rattle.std.proofs.lemmas.List.Elements.{All-filter}
use Rattle.std.proofs.lemmas.List.Kept.{AllPairs-filter}
use Rattle.fx_store_model.specs.Making.{with_owners}
use Rattle.fx_store_model.specs.Stored.{Stored, after_end, watched_names}
use Rattle.fx_handles.specs.declared.Owner.{Owner}
use Rattle.fx_handles.specs.Living.{Register, after_make, after_release}
use Rattle.fx_listen.specs.declared.entries.Listener.{Listener}
use Rattle.fx_listen.specs.Laws.{HasBornOwner}
use Rattle.fx_listen.specs.Listening.{IsBefore, IsSound, Table, is_live, living_in}
use Rattle.fx_listen.proofs.LivingLemmas.{living_in-made, living_in-released}
use Rattle.fx_store_pairs.specs.Pairs.{is_paired, joined}
use Rattle.fx_graph_model.specs.declared.entries.Entry.{Entry}
use Rattle.fx_graph_model.specs.Changes.{State}
use Rattle.fx_graph_model.specs.Eager.{eager}
use Rattle.fx_graph_model.specs.Refusals.{kind_at, read_only_in}
use Rattle.fx_graph_model.specs.Unread.{marked}
use Rattle.fx_graph_model.specs.Uses.{bound_in, unknown_in}
use Rattle.fx_graph_model.proofs.Members.{filter_contains}
use Rattle.fx_store.specs.Kept.{AreAllRead, ArePaired, stored_of}
use Rattle.fx_store.proofs.Twins.{all_from, joined_eager, joined_kind, joined_own, own_known, own_unbound, paired_own}
use Rattle.fx_store.proofs.Watched.{watched_watch}

-- laws

pub laws_joined : (es : List Entry) (pairs : List (ℕ × ℕ)) → ArePaired es pairs → (one other : ℕ) → is_paired pairs one ≡ true
    → joined pairs one other ≡ true
    → (unknown_in es other ≡ false) × (bound_in es other ≡ false) × (read_only_in es other ≡ false)
    × (kind_at es other ≡ kind_at es one) × (eager es other ≡ eager es one)
laws_joined es pairs paired one other partner e =
    let own = joined_own es pairs paired one other e (paired_own es pairs paired one partner) in (
      own_known es other own,
      own_unbound es other own,
      own.free,
      joined_kind es pairs paired one other e,
      joined_eager es pairs paired one other e,
    )

pub all_live : (living : List Owner) (entries : List Listener)
    → All (λ (listener : Listener). is_live living listener ≡ true) (living_in living entries)
all_live living entries =
    all_from (λ (listener : Listener). is_live living listener ≡ true) (living_in living entries)
    (λ l c. (filter_contains (is_live living) entries l c).1)

pub living_sound : (living : List Owner) (table : Table) → IsSound table
    → IsSound (record { entries = living_in living table.entries; given = table.given })
living_sound living table sound = record {
  sorted = AllPairs-filter IsBefore (is_live living) table.entries sound.sorted;
  given = All-filter (is_live living) (λ (listener : Listener). listener.number ≤ table.given) table.entries sound.given;
}

pub watched_read : (stored : Stored) → AreAllRead stored.pairs stored.listeners stored.unread
    → All (λ (name : ℕ). marked stored.unread name ≡ false) (watched_names stored)
watched_read stored read =
    all_from (λ (name : ℕ). marked stored.unread name ≡ false) (watched_names stored)
    (λ name c. read name (watched_watch stored name c))

-- a listener among the living

and-true : (b : Bool) → (b && true) ≡ b
and-true true = refl
and-true false = refl

and-false : (b : Bool) → (b && false) ≡ false
and-false true = refl
and-false false = refl

pub any_living : (test : Listener → Bool) (living : List Owner) (entries : List Listener)
    → list_any (λ (listener : Listener). test listener && is_live living listener) entries ≡ list_any test (living_in living entries)
any_living test living [] = refl
any_living test living (x ∷ xs) = by_live (is_live living x) (any_living test living xs)
  where
    by_live : (b : Bool)
        → list_any (λ (listener : Listener). test listener && is_live living listener) xs ≡ list_any test (living_in living xs)
        → ((test x && b) || list_any (λ (listener : Listener). test listener && is_live living listener) xs)
        ≡ list_any test (cond b (x ∷ living_in living xs) (living_in living xs))
    by_live true rest = rw (and-true (test x)) (ap (λ (b : Bool). test x || b) rest)
    by_live false rest = rw (and-false (test x)) rest

-- owners

pub seen_made : (graph : State) (pairs : List (ℕ × ℕ)) (table : Table) (owners now : Register) (owner : Owner)
    → All (HasBornOwner owners.born) table.entries → owner.birth ≡ owners.born + 1 → now ≡ after_make owners owner
    → stored_of graph pairs table now ≡ with_owners (after_make owners owner) (stored_of graph pairs table owners)
seen_made graph pairs table owners now owner born next made =
    ap (λ (register : Register). stored_of graph pairs table register) made
    ∙ ap (λ ls. with_listeners_of ls) (living_in-made owners owner table.entries next born)
  where
    with_listeners_of : List Listener → Stored
    with_listeners_of listeners = record {
      entries = graph.entries;
      unread = graph.unread;
      pairs = pairs;
      listeners = listeners;
      owners = after_make owners owner;
      given = table.given;
    }

pub seen_released : (graph : State) (pairs : List (ℕ × ℕ)) (table : Table) (owners now : Register) (owner : Owner)
    → now ≡ after_release owners owner
    → stored_of graph pairs table now ≡ after_end owner (stored_of graph pairs table owners)
seen_released graph pairs table owners now owner released =
    ap (λ (register : Register). stored_of graph pairs table register) released
    ∙ ap (λ ls. with_listeners_of ls) (living_in-released owners owner table.entries)
  where
    with_listeners_of : List Listener → Stored
    with_listeners_of listeners = record {
      entries = graph.entries;
      unread = graph.unread;
      pairs = pairs;
      listeners = listeners;
      owners = after_release owners owner;
      given = table.given;
    }
