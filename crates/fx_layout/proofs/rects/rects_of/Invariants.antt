use Rattle.fx_layout.proofs.Shifts.{AreRectsUpTo}
use Rattle.fx_layout.proofs.rects.rects_of.Given as goal

abbrev pub invariant-loop-place : goal.invariant-loop-place
invariant-loop-place l = AreRectsUpTo l.nodes l.across l.down l.rects.items l.place
