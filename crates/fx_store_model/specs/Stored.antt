-- The store of properties as contracts see it. Only living listeners count, so a release takes those of the owner away.
use Rattle.std.specs.Prelude.{ℕ, ◌≡◌, ◌||◌, Bool, true, false, not, List, [], length, filter, Some}
use Rattle.std.specs.List.{list_any, range_with_len}
use Rattle.fx_handles.specs.declared.Owner.{Owner}
use Rattle.fx_handles.specs.Living.{Register, nobody, after_release}
use Rattle.fx_listen.specs.declared.entries.Listener.{Listener}
use Rattle.fx_listen.specs.declared.entries.ListenKind.TheVariants.{Change}
use Rattle.fx_listen.specs.Listening.{tells, same_owner}
use Rattle.fx_graph_model.specs.declared.entries.Entry.{Entry}
use Rattle.fx_graph_model.specs.Eager.{eager}
use Rattle.fx_graph_model.specs.Refusals.{kind_at, read_only_in}
use Rattle.fx_graph_model.specs.Unread.{after_reads}
use Rattle.fx_graph_model.specs.Uses.{bound_in, unknown_in}
use Rattle.fx_store_pairs.specs.Pairs.{is_paired, joined}

-- properties with a flag each that says whether it is unread, the pairs in the order of their making, the living
-- listeners by property and then by number, the owners, and the last listener number that was given
pub record Stored : Type 0 where
  pub entries : List Entry
  pub unread : List Bool
  pub pairs : List (ℕ × ℕ)
  pub listeners : List Listener
  pub owners : Register
  pub given : ℕ

abbrev pub empty : Stored
empty = record { entries = []; unread = []; pairs = []; listeners = []; owners = nobody; given = 0 }

-- it has a change listener
abbrev pub is_heard : List Listener → ℕ → Bool
is_heard listeners name = list_any (tells name Change) listeners

-- it is in a pair or has a change listener
abbrev pub is_watched : Stored → ℕ → Bool
is_watched stored name = is_paired stored.pairs name || is_heard stored.listeners name

abbrev pub watched_names : Stored → List ℕ
watched_names stored = filter (is_watched stored) (range_with_len 0 (length stored.entries))

abbrev pub with_unread : List Bool → Stored → Stored
with_unread unread stored = record stored { unread = unread }

-- every watched name is read, with all that it needs
abbrev pub after_watching : Stored → Stored
after_watching stored = with_unread (after_reads stored.entries (watched_names stored) stored.unread) stored

-- the owner is dead, and so are its listeners
abbrev pub after_end : Owner → Stored → Stored
after_end owner stored =
    record stored {
      listeners = filter (λ (listener : Listener). not (same_owner listener.owner (Some owner))) stored.listeners;
      owners = after_release stored.owners owner;
    }

-- joined properties are known, unbound and written by code, of one kind and of one value
abbrev pub AreJoinedAlike : Stored → Type 0
AreJoinedAlike stored =
    (one other : ℕ) → is_paired stored.pairs one ≡ true → joined stored.pairs one other ≡ true
    → (unknown_in stored.entries other ≡ false) × (bound_in stored.entries other ≡ false)
    × (read_only_in stored.entries other ≡ false) × (kind_at stored.entries other ≡ kind_at stored.entries one)
    × (eager stored.entries other ≡ eager stored.entries one)
