-- the rectangles so far are painted anew
use Rattle.std.proofs.Common.{take}
use Rattle.fx_canvas.proofs.RepaintLemmas.{IsRepainted}
use Rattle.fx_canvas.proofs.painting.repaint.Given as goal

abbrev pub invariant-loop-rect : goal.invariant-loop-rect
invariant-loop-rect g l = IsRepainted l.entries (take l.rect-index l.rects) l.fn.rows l.rows l.fn.painted l.painted
