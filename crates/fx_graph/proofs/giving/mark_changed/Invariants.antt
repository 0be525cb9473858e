use Rattle.std.proofs.Common.{take}
use Rattle.fx_graph_model.specs.Changes.{changed}
use Rattle.fx_graph_model.specs.Marking.{MarksAll}
use Rattle.fx_graph.proofs.giving.mark_changed.Given as goal

abbrev pub invariant-loop-pair : goal.invariant-loop-pair
invariant-loop-pair l = MarksAll (changed (take l.pair-index l.pairs) l.entries) l.fn.unread l.fn.work 0 l.unread l.work l.end
