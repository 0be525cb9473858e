use Rattle.std.proofs.Common.{◌≡◌, ◌+◌}
use Rattle.fx_layout_sweeps.specs.Marks.{flag_in}
use Rattle.fx_layout_sweeps.specs.Sweeps.{kept_in, last_in, tally}
use Rattle.fx_layout_sweeps.proofs.Spreads.{IsSpread}
use Rattle.fx_layout_sweeps.proofs.moving.place_nodes.Given as goal

abbrev pub invariant-loop-at : goal.invariant-loop-at
invariant-loop-at g l =
    IsSpread l.sweep.placing.axis l.sweep.placing.nodes.now l.sweep.placing.looks.now l.sweep.placing.children.now l.fn.marks
    l.sweep.placing.widths.now l.sweep.placing.heights.now (last_in l.sweep.olds.now l.sweep.old_spans.now)
    (kept_in l.sweep.olds.now l.sweep.old_children.now l.sweep.old_spans.now) l.fn.spans.items l.marks l.spans.items l.at
    × (l.work ≡ record l.fn.work { laid = l.fn.work.laid + tally (flag_in l.marks) l.at })
