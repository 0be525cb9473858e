use Rattle.fx_layout_sweeps.proofs.Respreads.{put_marked}
use Rattle.fx_layout_sweeps.proofs.placing.move_child.Goals as goal

pub returns-clause-marks : goal.returns-clause-marks
returns-clause-marks c = λ q few.
    put_marked c.args.spans.now.items c.args.marks.now c.mark_if.new.self c.args.place q c.args.span c.requires
    (rw (c.span_at-before.ensures, c.as_slice.ensures.value) at (c.mark_if.ensures.marks q few))
