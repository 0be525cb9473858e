-- the nodes so far rise by their paths
use Rattle.fx_layout_sweeps.specs.Nodes.{parents}
use Rattle.fx_pulse.specs.Drawing.{RiseUpTo}
use Rattle.fx_pulse.proofs.checking.are_in_order.Given as goal

abbrev pub invariant-loop-place : goal.invariant-loop-place
invariant-loop-place l = RiseUpTo (parents l.boxes) l.place
