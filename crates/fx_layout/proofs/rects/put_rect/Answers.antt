use Rattle.fx_layout.proofs.Readds.{put_marks}
use Rattle.fx_layout.proofs.rects.put_rect.Goals as goal

pub returns-clause-marks : goal.returns-clause-marks
returns-clause-marks c = λ q few free.
    put_marks c.args.rects.now.items c.args.marks.now c.mark_if.new.self c.args.place q c.args.rect c.are_alike-moves.result
    (rw (c.rect_at.ensures, c.as_slice.ensures.value) at c.are_alike-moves.ensures) c.requires.within
    (c.mark_if.ensures.marks q few) free
