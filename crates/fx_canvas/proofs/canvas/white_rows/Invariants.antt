-- so many white rows
use Rattle.std.proofs.Common.{◌≡◌, replicate}
use Rattle.fx_canvas.specs.Surfaces.{white_line}
use Rattle.fx_canvas.proofs.canvas.white_rows.Given as goal

abbrev pub invariant-loop : goal.invariant-loop
invariant-loop l = l.rows.items ≡ replicate l.counter (white_line l.width)
