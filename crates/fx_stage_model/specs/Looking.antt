-- Nodes by their paths, and properties by their names.
use Rattle.std.specs.Prelude.{ℕ, ◌+◌, ◌-◌, Bool, false, List, [], ◌∷◌, length, slice_index_or, take, Option, Some, None, Result, Ok, Err, option_and_then}
use Rattle.std.specs.List.{position, range_with_len}
use Rattle.std.specs.Map.{lookup}
use Rattle.std.specs.Option.{option_map}
use Rattle.std.specs.Str.{bytes_eq}
use Rattle.fx_base.specs.Names.{name_of}
use Rattle.fx_base.specs.declared.keys.Name.{Name}
use Rattle.fx_base.specs.declared.keys.NodeKey.{NodeKey}
use Rattle.fx_kinds.specs.declared.classes.Class.{Class}
use Rattle.fx_kinds.specs.Properties.{ListedProperty, properties_of}
use Rattle.fx_stage_types.specs.declared.node_data.NodeData.{NodeData}
use Rattle.fx_stage_types.specs.Tables.{data_of, node_at}
use Rattle.fx_stage_types.specs.declared.refusals.Refusal.{Refusal}
use Rattle.fx_stage_types.specs.declared.refusals.Refusal.TheVariants as word
use Rattle.fx_stage_model.specs.Answers.{and_then, or_word}
use Rattle.fx_stage_model.specs.World.{World}

-- the place of the property in the class's list
unfoldable pub place_of : Class → List ℕ → Option ℕ
place_of class property = position (λ (listed : ListedProperty). bytes_eq listed.name property) (properties_of class)

-- the number of the property of this name among those of a node
unfoldable pub property_in : Option NodeData → List ℕ → Option ℕ
property_in None property = None
property_in (Some node) property = option_map (λ (place : ℕ). node.first + place) (place_of node.class property)

-- the numbers of all its properties
abbrev pub properties_in : Option NodeData → List ℕ
properties_in None = []
properties_in (Some node) = range_with_len node.first (length (properties_of node.class))

-- the names before the last one, and the last one
abbrev pub front : List (List ℕ) → List (List ℕ)
front path = take (length path - 1) path

abbrev pub last : List (List ℕ) → List ℕ
last path = slice_index_or path (length path - 1) []

-- a node, or the word for why there is none
unfoldable pub find_node : World → List (List ℕ) → Result NodeKey Refusal
find_node world path = or_word word.Unknown (node_at world.graph.paths path)

-- a property of a node by the node's path, or the word for why there is none
unfoldable pub find_of_node : World → List (List ℕ) → List ℕ → Result Name Refusal
find_of_node world path property =
    and_then (find_node world path) (λ (key : NodeKey).
    or_word word.Property (option_map name_of (property_in (data_of world.graph.table key) property)))

-- a property by its path: one name alone is a free property's, of several the last is a property of the node of those
-- before it
unfoldable pub find : World → List (List ℕ) → Result Name Refusal
find world [] = Err word.Unknown
find world (name ∷ []) = or_word word.Unknown (lookup (bytes_eq name) world.names.free)
find world (name ∷ (next ∷ rest)) =
    find_of_node world (front (name ∷ (next ∷ rest))) (last (name ∷ (next ∷ rest)))
