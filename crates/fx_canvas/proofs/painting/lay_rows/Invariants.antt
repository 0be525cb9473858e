-- the rows so far are laid over
use Rattle.fx_canvas.specs.Painting.{IsDrawn, laid_above, points_above}
use Rattle.fx_pens.specs.Dots.{is_in}
use Rattle.fx_canvas.proofs.painting.lay_rows.Given as goal

abbrev pub invariant-loop-y : goal.invariant-loop-y
invariant-loop-y g l = IsDrawn (laid_above l.fn.block l.y l.shape) (is_in l.fn.block.top l.fn.block.bottom) (points_above l.fn.block l.y l.shape) l.fn.rows l.rows l.fn.painted l.painted
