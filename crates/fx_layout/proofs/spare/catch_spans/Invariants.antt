use Rattle.std.proofs.Common.{◌≤◌, ◌-◌, length}
use Rattle.fx_layout.proofs.Catching.{AreCaught}
use Rattle.fx_layout.proofs.spare.catch_spans.Given as goal

abbrev pub invariant-loop-at : goal.invariant-loop-at
invariant-loop-at l =
    AreCaught l.scene.nodes.now l.scene.children.now l.from l.marks l.to.items l.next
    × (l.next ≤ length l.scene.nodes.now)

abbrev pub decreases-loop-at : goal.decreases-loop-at
decreases-loop-at l = length l.scene.nodes.now - l.next
