use Rattle.std.proofs.Common.{take}
use Rattle.fx_base.specs.Names.{numbers}
use Rattle.fx_graph_model.specs.Marking.{MarksAll}
use Rattle.fx_graph.proofs.marking.mark_names.Given as goal

abbrev pub invariant-loop-name : goal.invariant-loop-name
invariant-loop-name l = MarksAll (numbers (take l.name-index l.names)) l.fn.flags l.fn.work 0 l.flags l.work l.end
