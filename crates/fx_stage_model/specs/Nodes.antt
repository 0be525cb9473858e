-- Lines on nodes of the tree: `new`, `attach`, `detach` and `drop`.
use Rattle.std.specs.Prelude.{ℕ, ◌+◌, Bool, not, ◌&&◌, ◌||◌, nat_lt, min, List, [], ◌∷◌, codes, length, map, Option, Some, None, Result, Ok, Err, is_some}
use Rattle.std.specs.List.{find as first_of, flat_map, fold, position}
use Rattle.std.specs.Option.{option_map_or}
use Rattle.std.specs.Str.{bytes_eq}
use Rattle.fx_base.specs.Names.{name_of as name_numbered}
use Rattle.fx_base.specs.Printing.{kind_of}
use Rattle.fx_base.specs.declared.keys.Name.{Name}
use Rattle.fx_base.specs.declared.keys.NodeKey.{NodeKey}
use Rattle.fx_kinds.specs.declared.classes.Class.{Class}
use Rattle.fx_kinds.specs.Classes.{classes, is_node, name_of}
use Rattle.fx_kinds.specs.Properties.{PropertyRow, rows_of}
use Rattle.fx_store_model.specs.declared.changes.Change.{Change}
use Rattle.fx_store_model.specs.declared.changes.Change.TheVariants.{Forget}
use Rattle.fx_store_model.specs.Making.{after_declared}
use Rattle.fx_store_model.specs.Refusals.{is_read_outside}
use Rattle.fx_store_model.specs.Step.{after, before_reads, cost}
use Rattle.fx_store_model.specs.Stored.{Stored}
use Rattle.fx_text.specs.Digits.{number_of_digits}
use Rattle.fx_tree.specs.declared.TreeError.{TreeError}
use Rattle.fx_tree.specs.Refusals.{detach_refusal, drop_refusal}
use Rattle.fx_tree.specs.Scene.{subtree}
use Rattle.fx_stage_types.specs.declared.refusals.Refusal.{Refusal}
use Rattle.fx_stage_types.specs.declared.refusals.Refusal.TheVariants as word
use Rattle.fx_stage_types.specs.declared.steps.Spot.{Spot}
use Rattle.fx_stage_types.specs.declared.steps.Spot.TheVariants.{At, On}
use Rattle.fx_stage_types.specs.Tables.{NodeTable, data_of, node_at}
use Rattle.fx_stage_types.specs.Words.{of_tree}
use Rattle.fx_stage_model.specs.Answers.{Taken, and_then, both, or_word, silently, unless}
use Rattle.fx_stage_model.specs.Graphs.{Graph, attached, child_refusal, detached, dropped, is_full_of_nodes, with_born, with_path}
use Rattle.fx_stage_model.specs.Looking.{find_node, properties_in}
use Rattle.fx_stage_model.specs.Properties.{told, word_in}
use Rattle.fx_stage_model.specs.World.{World, with_graph, with_store}

-- making a node

-- the properties of these rows are declared, in their order
abbrev pub with_row : Class → Stored → PropertyRow → Stored
with_row class stored row =
    after_declared (kind_of (row.initial class)) row.read_only (row.initial class) stored

abbrev pub with_rows : Class → List PropertyRow → Stored → Stored
with_rows class rows stored = fold (with_row class) stored rows

-- a further node with its properties
unfoldable pub with_node : Class → NodeKey → World → World
with_node class key world =
    record world {
      store = with_rows class (rows_of class) world.store;
      graph = with_born class (length world.store.entries) key world.graph;
    }

-- 4,096 nodes are alive, or all numbers of nodes were given, or of names, so that none is left for the properties
abbrev pub has_no_room : Class → World → Bool
has_no_room class world =
    is_full_of_nodes world.graph || nat_lt 4000000 (length world.store.entries + length (rows_of class))

-- the node is known by this path, too
abbrev pub with_name : List (List ℕ) → NodeKey → World → World
with_name path key world = with_graph (with_path path key world.graph) world

-- the class of nodes of this name
abbrev pub node_class : List ℕ → Option Class
node_class name = first_of (λ (c : Class). is_node c && bytes_eq (name_of c) name) classes

-- the next node, which is kept in this slot
abbrev pub next_key : ℕ → World → NodeKey
next_key slot world = record { slot = slot; birth = world.graph.tree.born + 1 }

unfoldable pub new : ℕ → List ℕ → List ℕ → World → Result Taken Refusal
new slot name path world =
    and_then (or_word word.Value (node_class name)) (λ (class : Class).
    unless (is_some (node_at world.graph.paths (path ∷ []))) word.Exists
    (unless (has_no_room class world) word.Full
    (silently (with_name (path ∷ []) (next_key slot world) (with_node class (next_key slot world) world)))))

-- attaching a node

abbrev pub edges : List (List ℕ)
edges = codes "top" ∷ codes "right" ∷ codes "bottom" ∷ codes "left" ∷ codes "center" ∷ []

-- the number of a place; the largest ones are past the end of any list, and are one
abbrev pub place_of_digits : List ℕ → ℕ
place_of_digits word = min (number_of_digits word) 4294967295

-- an edge by its name in lower case, or a place by its number
abbrev pub spot_of : List ℕ → Spot
spot_of word = option_map_or On (position (λ (edge : List ℕ). bytes_eq edge word) edges) (At (place_of_digits word))

-- a scene graph, by the tree's own refusal
abbrev pub by_tree : Option TreeError → Graph → World → Result Taken Refusal
by_tree None graph world = silently (with_graph graph world)
by_tree (Some error) graph world = Err (word_in (of_tree error))

unfoldable pub attach : List (List ℕ) → List (List ℕ) → List ℕ → World → Result Taken Refusal
attach parent child place world =
    and_then (both (find_node world parent) (find_node world child)) (λ (found : NodeKey × NodeKey).
    by_tree (child_refusal found.0 found.1 (spot_of place) world.graph)
    (attached found.0 found.1 (spot_of place) world.graph) world)

-- detaching a node

unfoldable pub detach : List (List ℕ) → World → Result Taken Refusal
detach path world =
    and_then (find_node world path) (λ (key : NodeKey).
    by_tree (detach_refusal world.graph.tree key) (detached key world.graph) world)

-- dropping a node

-- the numbers of the properties of these nodes
abbrev pub properties_of_all : NodeTable → List NodeKey → List ℕ
properties_of_all table keys = flat_map (λ (key : NodeKey). properties_in (data_of table key)) keys

-- the properties of these nodes are forgotten, with their pairs and listeners
abbrev pub names_of_all : NodeTable → List NodeKey → List Name
names_of_all table keys = map name_numbered (properties_of_all table keys)

-- these properties are forgotten, and nothing is left of these nodes, which are the subtree of the first
abbrev pub without_nodes : Change → NodeKey → List NodeKey → World → Taken
without_nodes change key keys world =
    record {
      made = with_store (before_reads change world.store) (with_graph (dropped key keys world.graph) world);
      world = with_store (after change world.store) (with_graph (dropped key keys world.graph) world);
      value = None;
      notices = told change world.store;
      warnings = [];
      cost = cost change world.store;
    }

-- a node and all below it, unless a property outside is bound to one of theirs
abbrev pub forgotten : NodeKey → List NodeKey → World → Result Taken Refusal
forgotten key keys world =
    unless (is_read_outside (properties_of_all world.graph.table keys) world.store.entries) word.Used
    (Ok (without_nodes (Forget (names_of_all world.graph.table keys)) key keys world))

abbrev pub drop_by : Option TreeError → NodeKey → World → Result Taken Refusal
drop_by (Some error) key world = Err (word_in (of_tree error))
drop_by None key world = forgotten key (subtree world.graph.tree.nodes key) world

unfoldable pub drop : List (List ℕ) → World → Result Taken Refusal
drop path world =
    and_then (find_node world path) (λ (key : NodeKey). drop_by (drop_refusal world.graph.tree key) key world)
