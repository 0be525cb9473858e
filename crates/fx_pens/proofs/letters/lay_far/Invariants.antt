use Rattle.std.proofs.Common.{◌≡◌, ◌*◌, ◌+ℤ◌, length, pos, take}
use Rattle.std.specs.Str.{chars}
use Rattle.fx_cells.specs.Columns.{cells_of}
use Rattle.fx_pens.specs.Dots.{IsLaid, line_dots}
use Rattle.fx_pens.proofs.letters.lay_far.Given as goal

abbrev pub invariant-loop-c : goal.invariant-loop-c
invariant-loop-c g l = (l.start ≡ l.fn.first +ℤ pos (4 * cells_of (take (length l.yielded) (chars l.text)) * l.pen.scale))
    × IsLaid l.pen (line_dots l.pen l.fn.first (take (length l.yielded) (chars l.text))) l.fn.row l.row l.fn.painted l.painted
