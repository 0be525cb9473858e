-- A write takes the first bytes of the rest.
use Rattle.fx_edge.proofs.Taken.{goes_on}
use Rattle.fx_edge.proofs.sink.write_whole.Goals as goal

pub loop-rest-preserved : goal.loop-rest-preserved
loop-rest-preserved g c = goes_on _ c.loop-rest.invariant c.in_ok-count.ensures.bytes
