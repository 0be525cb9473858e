-- one rectangle more
use Rattle.fx_canvas.proofs.RepaintLemmas.{next_rect}
use Rattle.fx_canvas.proofs.painting.repaint.Goals as goal

pub loop-rect-preserved : goal.loop-rect-preserved
loop-rect-preserved g c =
    next_rect c.args.entries.now c.args.rects.now c.loop-rect.rect-index c.args.rows.now c.loop-rect.rows c.repaint_rect.new.rows
    c.args.painted.now c.loop-rect.painted c.repaint_rect.new.painted c.loop-rect-test.true c.loop-rect.invariant c.repaint_rect.ensures
