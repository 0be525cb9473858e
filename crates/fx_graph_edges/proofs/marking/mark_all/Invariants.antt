use Rattle.std.proofs.Common.{take}
use Rattle.fx_graph_model.specs.Marking.{MarksAll}
use Rattle.fx_graph_edges.proofs.marking.mark_all.Given as goal

abbrev pub invariant-loop-name : goal.invariant-loop-name
invariant-loop-name l = MarksAll (take l.name-index l.names) l.fn.unread l.fn.work l.fn.count l.unread l.work l.end
