-- The values that the properties of nodes have.
use Rattle.std.specs.Prelude.{ℕ, ℤ, pos, Bool, false, List, [], codes, Option, Some, None}
use Rattle.std.specs.Option.{option_map}
use Rattle.fx_base.specs.declared.keys.NodeKey.{NodeKey}
use Rattle.fx_base.specs.declared.values.Value.{Value}
use Rattle.fx_base.specs.declared.values.Value.TheVariants as value
use Rattle.fx_graph_model.specs.declared.entries.Entry.{Entry}
use Rattle.fx_graph_model.specs.Eager.{eager}
use Rattle.fx_stage_types.specs.declared.node_data.NodeData.{NodeData}
use Rattle.fx_stage_types.specs.Tables.{data_of}
use Rattle.fx_stage_model.specs.Looking.{property_in}
use Rattle.fx_stage_model.specs.World.{World}

-- the value of the property of this name, if the node has one
abbrev pub value_in : List Entry → NodeData → List ℕ → Option Value
value_in entries node property = option_map (eager entries) (property_in (Some node) property)

abbrev pub text_of : Option Value → List ℕ
text_of (Some (value.Text text)) = text
text_of _ = []

abbrev pub truth_of : Option Value → Bool
truth_of (Some (value.Bool truth)) = truth
truth_of _ = false

abbrev pub number_of : Option Value → ℤ
number_of (Some (value.Int number)) = number
number_of _ = pos 0

-- whether a node is disabled itself
abbrev pub disables : List Entry → Option NodeData → Bool
disables entries None = false
disables entries (Some node) = truth_of (value_in entries node (codes "disable"))

abbrev pub is_set_disabled : World → NodeKey → Bool
is_set_disabled world key = disables world.store.entries (data_of world.graph.table key)
