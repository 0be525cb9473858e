use Rattle.fx_graph_edges.proofs.ClearLemmas.{Clears}
use Rattle.fx_graph_edges.proofs.marking.take_back.Given as goal

abbrev pub invariant-loop-place : goal.invariant-loop-place
invariant-loop-place l = Clears l.flags l.fn.flags l.work l.place l.count
