-- What the writer tells grew by what stands before the rest.
use Rattle.std.proofs.Common.{length}
use Rattle.fx_edge.specs.Taken.{AppendsUpTo}
use Rattle.fx_edge.proofs.sink.write_whole.Given as goal

abbrev pub invariant-loop-rest : goal.invariant-loop-rest
invariant-loop-rest g l = AppendsUpTo (g.W.Write.contents l.fn.writer) (g.W.Write.contents l.writer) l.piece l.rest

abbrev pub decreases-loop-rest : goal.decreases-loop-rest
decreases-loop-rest g l = length l.rest
