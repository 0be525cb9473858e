-- the shapes of the entries so far are laid over
use Rattle.std.proofs.Common.{take}
use Rattle.fx_canvas.proofs.RepaintLemmas.{IsLaidOver}
use Rattle.fx_picture.specs.Pixels.{shapes_of}
use Rattle.fx_canvas.proofs.painting.lay_entries.Given as goal

abbrev pub invariant-loop-entry : goal.invariant-loop-entry
invariant-loop-entry g l = IsLaidOver l.area (shapes_of (take l.entry-index l.entries)) l.fn.rows l.rows l.fn.painted l.painted
