use Rattle.std.proofs.Common.{◌≤◌, ◌-◌, length}
use Rattle.fx_layout.proofs.Readds.{IsReadded}
use Rattle.fx_layout.proofs.rects.add_again.Given as goal

abbrev pub invariant-loop-at : goal.invariant-loop-at
invariant-loop-at l =
    IsReadded l.scene.nodes.now l.scene.children.now l.halves.across.now l.halves.down.now l.fn.rects.items l.marks
    l.rects.items l.from
    × (l.from ≤ length l.scene.nodes.now)

abbrev pub decreases-loop-at : goal.decreases-loop-at
decreases-loop-at l = length l.scene.nodes.now - l.from
