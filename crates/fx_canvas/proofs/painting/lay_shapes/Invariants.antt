-- the shapes so far are laid over
use Rattle.std.proofs.Common.{take}
use Rattle.fx_canvas.proofs.RepaintLemmas.{IsLaidOver}
use Rattle.fx_canvas.proofs.painting.lay_shapes.Given as goal

abbrev pub invariant-loop-shape : goal.invariant-loop-shape
invariant-loop-shape g l = IsLaidOver l.area (take l.shape-index l.shapes) l.fn.rows l.rows l.fn.painted l.painted
