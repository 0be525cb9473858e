-- the flags of the nodes so far
use Rattle.std.proofs.Common.{◌≡◌}
use Rattle.fx_layout_sweeps.specs.Nodes.{parents}
use Rattle.fx_pulse_touched.specs.Marks.{is_below, told}
use Rattle.fx_pulse_touched.proofs.marks.handed_down.Given as goal

abbrev pub invariant-loop-place : goal.invariant-loop-place
invariant-loop-place l = l.below.items ≡ told (is_below (parents l.boxes) l.marks) l.place
