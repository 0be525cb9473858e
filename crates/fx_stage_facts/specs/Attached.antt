-- The nodes that stand in the scene, and the world after their properties were read.
use Rattle.std.specs.Prelude.{ℕ, ◌+◌, Bool, true, false, not, ◌||◌, List, [], ◌∷◌, ◌++◌, codes, Option, Some, None}
use Rattle.std.specs.List.{flat_map}
use Rattle.std.specs.Option.{option_map_or}
use Rattle.std.specs.Str.{bytes_eq}
use Rattle.fx_base.specs.declared.keys.NodeKey.{NodeKey}
use Rattle.fx_graph_model.specs.Unread.{after_reads, evaluations_of}
use Rattle.fx_kinds.specs.Properties.{ListedProperty, properties_of}
use Rattle.fx_store_model.specs.Stored.{with_unread}
use Rattle.fx_tree.specs.Scene.{Scene, subtree}
use Rattle.fx_stage_types.specs.declared.node_data.NodeData.{NodeData}
use Rattle.fx_stage_types.specs.Tables.{NodeTable, data_of}
use Rattle.fx_stage_model.specs.World.{World}

-- the root and all that stand below it, in pre-order
abbrev pub keys_in : Scene → List NodeKey
keys_in scene = option_map_or (subtree scene.nodes) scene.root []

abbrev pub attached_keys : World → List NodeKey
attached_keys world = keys_in world.graph.tree

-- a frame reads every property but the sizes that it publishes
abbrev pub is_displayed : List ℕ → Bool
is_displayed name = not (bytes_eq name (codes "width") || bytes_eq name (codes "height"))

abbrev pub one_if : Bool → ℕ → List ℕ
one_if true name = name ∷ []
one_if false name = []

-- the numbers of those of these properties that a frame reads, where they are numbered from here on
abbrev pub displayed_from : ℕ → List ListedProperty → List ℕ
displayed_from name [] = []
displayed_from name (property ∷ rest) =
    one_if (is_displayed property.name) name ++ displayed_from (name + 1) rest

abbrev pub displayed_in : Option NodeData → List ℕ
displayed_in None = []
displayed_in (Some node) = displayed_from node.first (properties_of node.class)

abbrev pub displayed_of : NodeTable → List NodeKey → List ℕ
displayed_of table keys = flat_map (λ (key : NodeKey). displayed_in (data_of table key)) keys

-- the properties that a frame reads
abbrev pub display_names : World → List ℕ
display_names world = displayed_of world.graph.table (attached_keys world)

-- the world once a frame has read them
abbrev pub looked : World → World
looked world =
    record world {
      store = with_unread (after_reads world.store.entries (display_names world) world.store.unread) world.store;
    }

-- and how many expressions are evaluated for that
abbrev pub look_cost : World → ℕ
look_cost world = evaluations_of world.store.entries (display_names world) world.store.unread
