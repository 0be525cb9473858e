-- Whether the properties of nodes are forgotten, and the nodes that end with them.
use Rattle.std.specs.Prelude.{Bool, true, false, List, Option, None, Some}
use Rattle.fx_base.specs.declared.keys.Name.{Name}
use Rattle.fx_base.specs.declared.keys.NodeKey.{NodeKey}
use Rattle.fx_graph_model.specs.declared.entries.Entry.{Entry}
use Rattle.fx_graph_model.specs.Uses.{unknown_in}
use Rattle.fx_stage_model.specs.Graphs.{Graph, dropped}

-- the first of them is unknown; where there is none, forgetting ended well
abbrev pub are_gone : Option Name → Bool → List Entry → Bool
are_gone None done entries = done
are_gone (Some name) done entries = unknown_in entries name.0

-- the nodes end, if it is so
abbrev pub dropped_if : Bool → NodeKey → List NodeKey → Graph → Graph
dropped_if true key keys graph = dropped key keys graph
dropped_if false key keys graph = graph
