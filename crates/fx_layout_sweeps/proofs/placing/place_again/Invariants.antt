use Rattle.std.proofs.Common.{◌≡◌, ◌≤◌, ◌+◌, ◌-◌, length}
use Rattle.fx_layout_sweeps.specs.Marks.{flag_in}
use Rattle.fx_layout_sweeps.specs.Sweeps.{tally}
use Rattle.fx_layout_sweeps.proofs.Respreads.{IsRespread}
use Rattle.fx_layout_sweeps.proofs.placing.place_again.Given as goal

abbrev pub invariant-loop-at : goal.invariant-loop-at
invariant-loop-at g l =
    IsRespread (record {
      axis = l.sweep.axis;
      nodes = l.sweep.nodes.now;
      looks = l.sweep.looks.now;
      children = l.sweep.children.now;
      listed = l.fn.marks;
      widths = l.sweep.widths.now;
      heights = l.sweep.heights.now;
      start = l.fn.spans.items;
    }) l.marks l.spans.items l.from
    × (l.work ≡ record l.fn.work { laid = l.fn.work.laid + tally (flag_in l.marks) l.from })
    × (l.from ≤ length l.sweep.nodes.now)

abbrev pub decreases-loop-at : goal.decreases-loop-at
decreases-loop-at g l = length l.sweep.nodes.now - l.from
