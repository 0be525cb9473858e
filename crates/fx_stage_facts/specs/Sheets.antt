-- The style sheets of a scene: the user agent's and the scene's, and then those of each node with its inline style.
use Rattle.std.specs.Prelude.{ℕ, List, [], ◌∷◌, ◌++◌, length, map, Option, Some, None, option_to_list}
use Rattle.std.specs.List.{flat_map, range_with_len}
use Rattle.std.specs.Option.{option_map}
use Rattle.fx_base.specs.declared.keys.NodeKey.{NodeKey}
use Rattle.fx_css.specs.Agent.{agent_rules}
use Rattle.fx_css_types.specs.declared.sheets.Sheet.{Sheet}
use Rattle.fx_css_types.specs.declared.sheets.SheetAt.{SheetAt}
use Rattle.fx_css_types.specs.declared.sheets.SheetOrigin.{SheetOrigin}
use Rattle.fx_css_types.specs.declared.sheets.SheetOrigin.TheVariants as origin
use Rattle.fx_tree.specs.Scene.{Node, line_in, parent_of}
use Rattle.fx_stage_types.specs.declared.node_data.NodeData.{NodeData}
use Rattle.fx_stage_types.specs.Tables.{data_of}
use Rattle.fx_stage_model.specs.Graphs.{Graph}
use Rattle.fx_stage_model.specs.World.{World}
use Rattle.fx_stage_facts.specs.declared.stands.Stand.{Stand}
use Rattle.fx_stage_facts.specs.Stands.{stands_of}

abbrev pub from_origin : SheetOrigin → Sheet → SheetAt
from_origin from sheet = record { sheet = sheet; origin = from }

abbrev pub agent : Sheet
agent = record { rules = agent_rules; warnings = [] }

-- the sheets that count for every node
abbrev pub common_sheets : Graph → List SheetAt
common_sheets graph = from_origin origin.Agent agent ∷ map (from_origin origin.Scene) graph.sheets

-- how many ancestors a node has
abbrev pub depth_of : List Node → NodeKey → ℕ
depth_of nodes key = length (line_in 64 (parent_of nodes) (parent_of nodes key))

-- a node's own sheets, and then its inline style
abbrev pub sheets_in : ℕ → Option NodeData → List SheetAt
sheets_in depth None = []
sheets_in depth (Some node) =
    map (from_origin (origin.Parent depth)) node.sheets
    ++ option_to_list (option_map (from_origin origin.Inline) node.inline)

abbrev pub sheets_at : Graph → Stand → List SheetAt
sheets_at graph stand = sheets_in (depth_of graph.tree.nodes stand.key) (data_of graph.table stand.key)

-- all sheets, those that count for every node first
abbrev pub sheets_of : World → List SheetAt
sheets_of world = common_sheets world.graph ++ flat_map (sheets_at world.graph) (stands_of world)

-- the root lists the places of the sheets that count for every node, too
abbrev pub common_places : ℕ → Option ℕ → List ℕ
common_places common None = range_with_len 0 common
common_places common (Some parent) = []

-- the places of a node's sheets, of which so many are its own and begin here
abbrev pub places_of : ℕ → Option ℕ → ℕ → ℕ → List ℕ
places_of common parent place count = common_places common parent ++ range_with_len place count

-- the inline style stands behind them
abbrev pub inline_place : ℕ → Option Sheet → Option ℕ
inline_place place inline = option_map (λ (sheet : Sheet). place) inline
