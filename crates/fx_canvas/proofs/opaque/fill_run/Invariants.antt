-- the run is laid over the rows so far
use Rattle.fx_canvas.specs.Painting.{AreDotted}
use Rattle.fx_pens.specs.Dots.{is_in}
use Rattle.fx_canvas.proofs.opaque.fill_run.Given as goal

abbrev pub invariant-loop-y : goal.invariant-loop-y
invariant-loop-y g l = AreDotted l.pen l.fn.top l.fn.bottom l.y (λ x y. is_in l.run.left l.run.right x) l.fn.rows l.rows l.fn.painted l.painted
