use Rattle.std.proofs.Common.{◌≡◌, ◌≤◌, ◌+◌, length}
use Rattle.fx_layout_sweeps.specs.Marks.{flag_in}
use Rattle.fx_layout_sweeps.specs.Sweeps.{tally}
use Rattle.fx_layout_sweeps.proofs.Turns.{IsSwept}
use Rattle.fx_layout_sweeps.proofs.measuring.measure_nodes.Given as goal

abbrev pub invariant-loop-place : goal.invariant-loop-place
invariant-loop-place g l =
    IsSwept l.sweep.axis l.sweep.nodes.now l.sweep.looks.now l.sweep.children.now (flag_in l.sweep.listed.now)
    l.sweep.widths.now l.sweep.spans.now l.fn.lengths.items l.lengths.items l.to
    × (l.work ≡ record l.fn.work { laid = l.work.laid })
    × (l.work.laid + tally (flag_in l.sweep.listed.now) l.to
    ≡ l.fn.work.laid + tally (flag_in l.sweep.listed.now) (length l.sweep.nodes.now))
    × (l.to ≤ length l.sweep.nodes.now)

abbrev pub decreases-loop-place : goal.decreases-loop-place
decreases-loop-place g l = l.to
