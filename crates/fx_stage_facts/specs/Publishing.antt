-- The sizes of nodes, which a frame publishes.
use Rattle.std.specs.Prelude.{◌≡◌, ◌≢◌, ◌&&◌, ℕ, ℤ, AllPairs, Bool, true, false, List, [], ◌++◌, codes, Option, Some, None, Result, Ok, Err, if◌then◌else◌, option_and_then, option_to_list}
use Rattle.std.specs.List.{flat_map}
use Rattle.std.specs.Option.{option_map}
use Rattle.fx_base.specs.Names.{name_of}
use Rattle.fx_base.specs.declared.keys.Name.{Name}
use Rattle.fx_base.specs.declared.keys.NodeKey.{NodeKey}
use Rattle.fx_base.specs.declared.kinds.Kind.{Kind}
use Rattle.fx_base.specs.declared.kinds.Kind.TheVariants as kind
use Rattle.fx_base.specs.declared.values.Value.{Value}
use Rattle.fx_base.specs.declared.values.Value.TheVariants as value
use Rattle.fx_graph_refusals.specs.Known.{known_kind}
use Rattle.fx_graph_model.specs.declared.entries.Entry.{Entry}
use Rattle.fx_graph_model.specs.Refusals.{read_only_in}
use Rattle.fx_store_model.specs.declared.changes.Change.{Change}
use Rattle.fx_store_model.specs.declared.changes.Change.TheVariants.{Publish}
use Rattle.fx_store_model.specs.Step.{after, before_reads, cost}
use Rattle.fx_stage_types.specs.declared.node_data.NodeData.{NodeData}
use Rattle.fx_stage_types.specs.Tables.{data_of}
use Rattle.fx_stage_model.specs.Answers.{Taken}
use Rattle.fx_stage_model.specs.Looking.{property_in}
use Rattle.fx_stage_model.specs.Properties.{told}
use Rattle.fx_stage_model.specs.Taking.{IsUnfinished}
use Rattle.fx_stage_model.specs.World.{World, with_store}
use Rattle.fx_stage_facts.specs.declared.publishing.Published.{Published}

-- a node with its width and its height
abbrev pub Size : Type 0
Size = NodeKey × ℤ × ℤ

abbrev pub is_number : Option Kind → Bool
is_number (Some kind.Int) = true
is_number _ = false

-- a number that only the player writes
abbrev pub is_size : List Entry → ℕ → Bool
is_size entries name = read_only_in entries name && is_number (known_kind entries name)

abbrev pub size_if : List Entry → ℕ → Option Name
size_if entries name = if is_size entries name then Some (name_of name) else None

-- the property of this name, if it is such a number
abbrev pub size_named : List Entry → NodeData → List ℕ → Option Name
size_named entries node property = option_and_then (size_if entries) (property_in (Some node) property)

abbrev pub sized_by : ℤ → Name → Name × Value
sized_by length name = (name, value.Int length)

abbrev pub pair_if : List Entry → ℤ → ℕ → List (Name × Value)
pair_if entries length name = option_to_list (option_map (sized_by length) (size_if entries name))

abbrev pub pair_of : List Entry → NodeData → List ℕ → ℤ → List (Name × Value)
pair_of entries node property length = option_to_list (option_map (sized_by length) (size_named entries node property))

abbrev pub pairs_in : List Entry → ℤ → ℤ → Option NodeData → List (Name × Value)
pairs_in entries width height None = []
pairs_in entries width height (Some node) =
    pair_of entries node (codes "width") width ++ pair_of entries node (codes "height") height

abbrev pub pairs_at : World → Size → List (Name × Value)
pairs_at world size = pairs_in world.store.entries size.1 size.2 (data_of world.graph.table size.0)

-- the properties `width` and `height` of these nodes with their values
abbrev pub pairs_of : World → List Size → List (Name × Value)
pairs_of world sizes = flat_map (pairs_at world) sizes

-- each node once
abbrev pub AreOnce : List Size → Type 0
AreOnce sizes = AllPairs (λ (one other : Size). one.0 ≢ other.0) sizes

abbrev pub published_by : Change → World → Taken
published_by change world =
    record {
      made = with_store (before_reads change world.store) world;
      world = with_store (after change world.store) world;
      value = None;
      notices = told change world.store;
      warnings = [];
      cost = cost change world.store;
    }

-- all sizes are published in one change
abbrev pub sized : List Size → World → Taken
sized sizes world = published_by (Publish (pairs_of world sizes)) world

-- and the window is kept
abbrev pub published : ℕ × ℕ → List Size → World → World
published window sizes world = record (sized sizes world).world { window = Some window }

-- All is made and told, unless memory is wanting. Then nothing is made, or all sizes are published, but some watched
-- properties may be unread, and the window stays as it is.
abbrev pub IsPublished : {E : Type 0} → ℕ × ℕ → List Size → World → World → Result Published E → Type 0
IsPublished window sizes before now (Ok made) =
    (now ≡ published window sizes before) × (made.notices ≡ (sized sizes before).notices)
IsPublished window sizes before now (Err error) = IsUnfinished (sized sizes before) before now
