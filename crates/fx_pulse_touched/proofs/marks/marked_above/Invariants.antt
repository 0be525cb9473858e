-- from a place on, each marked node has marked its parent
use Rattle.std.proofs.Common.{◌≤◌, length}
use Rattle.fx_layout_sweeps.specs.Nodes.{parents}
use Rattle.fx_pulse_touched.specs.Marks.{AreHandedUp}
use Rattle.fx_pulse_touched.proofs.marks.marked_above.Given as goal

abbrev pub invariant-loop-place : goal.invariant-loop-place
invariant-loop-place l =
    (l.place ≤ length l.boxes) × AreHandedUp (parents l.boxes) l.initial.above.items l.above.items l.place

abbrev pub decreases-loop-place : goal.decreases-loop-place
decreases-loop-place l = l.place
