use Rattle.fx_layout.specs.Fits.{AreOthers}
use Rattle.fx_layout.proofs.nodes.stands_before.Given as goal

abbrev pub invariant-loop-other : goal.invariant-loop-other
invariant-loop-other l = AreOthers l.nodes l.other l.place
