-- What nodes have of their own by their keys, and nodes by their paths.
use Rattle.std.specs.Prelude.{ℕ, Bool, not, List, filter, Option}
use Rattle.std.specs.Cmp.Lexicographic.{pointwise}
use Rattle.std.specs.FinMap as map_of
use Rattle.std.specs.List.{fold}
use Rattle.std.specs.Map.{lookup}
use Rattle.std.specs.Option.{option_map_or}
use Rattle.std.specs.Str.{bytes_eq}
use Rattle.fx_base.specs.declared.keys.NodeKey.{NodeKey}
use Rattle.fx_events.specs.Keyed.{key_cmp}
use Rattle.fx_tree.specs.Scene.{has}
use Rattle.fx_stage_types.specs.declared.node_data.NodeData.{NodeData}

-- what each living node has of its own
abbrev pub NodeTable : Type 0
NodeTable = map_of.FinMap key_cmp NodeData

abbrev pub nobody : NodeTable
nobody = map_of.empty

abbrev pub data_of : NodeTable → NodeKey → Option NodeData
data_of table key = map_of.get table key

-- what a node has of its own is changed
abbrev pub changed_data : NodeKey → (NodeData → NodeData) → NodeTable → NodeTable
changed_data key change table =
    option_map_or (λ (node : NodeData). map_of.insert table key (change node)) (data_of table key) table

abbrev pub without_data : List NodeKey → NodeTable → NodeTable
without_data keys table = fold map_of.remove table keys

-- node paths, lists of identifiers, with their nodes in the order in which they were given
abbrev pub Paths : Type 0
Paths = List (List (List ℕ) × NodeKey)

abbrev pub same_path : List (List ℕ) → List (List ℕ) → Bool
same_path one other = pointwise bytes_eq one other

-- the node of this path
unfoldable pub node_at : Paths → List (List ℕ) → Option NodeKey
node_at paths path = lookup (same_path path) paths

abbrev pub without_paths : List NodeKey → Paths → Paths
without_paths keys paths = filter (λ (entry : List (List ℕ) × NodeKey). not (has keys entry.1)) paths
