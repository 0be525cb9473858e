-- Those properties that a frame reads which are unread.
use Rattle.std.specs.Prelude.{ℕ, Bool, List, filter, Option}
use Rattle.std.specs.List.{flat_map}
use Rattle.fx_base.specs.declared.keys.NodeKey.{NodeKey}
use Rattle.fx_graph_model.specs.Unread.{marked}
use Rattle.fx_stage_types.specs.declared.node_data.NodeData.{NodeData}
use Rattle.fx_stage_types.specs.Tables.{NodeTable, data_of}
use Rattle.fx_stage_facts.specs.Attached.{displayed_in}

-- of one node
abbrev pub unread_in : List Bool → Option NodeData → List ℕ
unread_in unread node = filter (marked unread) (displayed_in node)

-- of these nodes
abbrev pub unread_of : List Bool → NodeTable → List NodeKey → List ℕ
unread_of unread table keys = flat_map (λ (key : NodeKey). unread_in unread (data_of table key)) keys
