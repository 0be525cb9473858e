-- What the store keeps, and what of it contracts see.
use Rattle.std.specs.Prelude.{ℕ, ◌≡◌, ◌≤◌, Bool, false, List, length, All, Contains}
use Rattle.fx_base.specs.declared.values.Value.{Value}
use Rattle.fx_handles.specs.Living.{Register}
use Rattle.fx_listen.specs.declared.entries.Listener.{Listener}
use Rattle.fx_listen.specs.Listening.{Table, living_in}
use Rattle.fx_listen.specs.Laws.{HasBornOwner}
use Rattle.fx_graph_model.specs.declared.entries.Entry.{Entry}
use Rattle.fx_graph_model.specs.declared.entries.Definition.TheVariants.{Base}
use Rattle.fx_graph_model.specs.Changes.{State}
use Rattle.fx_graph_model.specs.Refusals.{kind_at, read_only_in}
use Rattle.fx_graph_model.specs.Unread.{marked}
use Rattle.fx_graph_model.specs.Uses.{entry_of, unknown_in}
use Rattle.fx_store_model.specs.Stored.{Stored}
use Rattle.fx_store.specs.Watching.{watch_list}

-- only living listeners are seen
abbrev pub stored_of : State → List (ℕ × ℕ) → Table → Register → Stored
stored_of graph pairs table owners =
    record {
      entries = graph.entries;
      unread = graph.unread;
      pairs = pairs;
      listeners = living_in owners.living table.entries;
      owners = owners;
      given = table.given;
    }

-- both are written by code, are of one kind and have one value of their own
pub record AreTwins (entries : List Entry) (one other : ℕ) : Type 0 where
  pub one_free : read_only_in entries one ≡ false
  pub other_free : read_only_in entries other ≡ false
  pub kind : kind_at entries one ≡ kind_at entries other
  pub value : Value
  pub one_value : (entry_of entries one).definition ≡ Base value
  pub other_value : (entry_of entries other).definition ≡ Base value

abbrev pub ArePaired : List Entry → List (ℕ × ℕ) → Type 0
ArePaired entries pairs = All (λ (pair : ℕ × ℕ). AreTwins entries pair.0 pair.1) pairs

abbrev pub AreOnKnown : List Entry → List Listener → Type 0
AreOnKnown entries listeners = All (λ (listener : Listener). unknown_in entries listener.name.0 ≡ false) listeners

-- every watched name is read
abbrev pub AreAllRead : List (ℕ × ℕ) → List Listener → List Bool → Type 0
AreAllRead pairs listeners unread =
    (name : ℕ) → Contains (watch_list pairs listeners) name → marked unread name ≡ false

-- The two of each pair are twins, listeners are on known properties and their owners were born, and every watched name
-- is read but after want of memory.
pub record IsKept
    (graph : State) (pairs : List (ℕ × ℕ)) (table : Table) (owners : Register) (behind : Bool)
    : Type 0 where
  pub twins : ArePaired graph.entries pairs
  pub few : length pairs ≤ 10000
  pub known : AreOnKnown graph.entries table.entries
  pub born : All (HasBornOwner owners.born) table.entries
  pub watched : behind ≡ false → AreAllRead pairs (living_in owners.living table.entries) graph.unread
