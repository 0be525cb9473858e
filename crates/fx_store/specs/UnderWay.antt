-- A change that was made in the graph, and that nobody was told of yet.
use Rattle.std.specs.Prelude.{ℕ, ◌+◌, ◌≡◌, ◌≤◌, true, List, None}
use Rattle.std.specs.List.{flat_map}
use Rattle.fx_base.specs.declared.keys.Name.{Name}
use Rattle.fx_base.specs.declared.values.Value.{Value}
use Rattle.fx_store_model.specs.declared.changes.Change.{Change}
use Rattle.fx_store_model.specs.Refusals.{IsAllowed}
use Rattle.fx_store_model.specs.Step.{added_by, before_reads, changed_notices, due, newly}
use Rattle.fx_store_model.specs.Stored.{Stored}
use Rattle.fx_handles.specs.Living.{Register}
use Rattle.fx_listen.specs.Listening.{Table, living_in}
use Rattle.fx_graph_model.specs.Changes.{State}
use Rattle.fx_store.specs.Kept.{IsKept, stored_of}
use Rattle.fx_store.specs.Looking.{IsEnough}
use Rattle.fx_store.specs.Watching.{notice_to, values_of, watch_list}

-- It is allowed and adds no listener, the store is as it makes it, reads of the names are as good as reads of all that
-- are watched, whoever is told is among the listeners, the values are those of their properties before, and no more was
-- evaluated than was due.
pub record IsUnderWay
    (change : Change) (before : Stored) (graph : State) (pairs : List (ℕ × ℕ)) (table : Table) (owners : Register)
    (names : List ℕ) (heard : List (Name × ℕ)) (values : List Value) (began looked : ℕ)
    : Type 0 where
  pub allowed : IsAllowed change before
  pub silent : added_by change before ≡ None
  pub kept : IsKept graph pairs table owners true
  pub whole : stored_of graph pairs table owners ≡ before_reads change before
  pub newly_told : graph.newly ≡ newly change before
  pub enough : IsEnough graph.unread (watch_list pairs (living_in owners.living table.entries)) names
  pub told : flat_map (notice_to before.entries graph.entries) heard
      ≡ changed_notices before.entries graph.entries (living_in owners.living table.entries)
  pub values_before : values ≡ values_of before.entries heard
  pub few : looked ≤ began + due before
