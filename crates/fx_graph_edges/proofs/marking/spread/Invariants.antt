use Rattle.std.proofs.Common.{◌-◌, length}
use Rattle.fx_graph_edges.proofs.RowLemmas.{GoesUp}
use Rattle.fx_graph_edges.proofs.marking.spread.Given as goal

abbrev pub invariant-loop-done : goal.invariant-loop-done
invariant-loop-done l = GoesUp l.entries (length l.users) l.fn.unread l.fn.work l.fn.count l.unread l.work l.done l.end

abbrev pub decreases-loop-done : goal.decreases-loop-done
decreases-loop-done l = length l.work - l.done
