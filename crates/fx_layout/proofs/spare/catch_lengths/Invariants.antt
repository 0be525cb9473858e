use Rattle.std.proofs.Common.{◌≤◌, ◌-◌, length}
use Rattle.fx_layout_sweeps.specs.Nodes.{unknown}
use Rattle.fx_layout.proofs.Catching.{IsCaught}
use Rattle.fx_layout.proofs.spare.catch_lengths.Given as goal

abbrev pub invariant-loop-place : goal.invariant-loop-place
invariant-loop-place l = IsCaught unknown l.from l.marks l.to.items l.next × (l.next ≤ length l.from)

abbrev pub decreases-loop-place : goal.decreases-loop-place
decreases-loop-place l = length l.from - l.next
