-- the letters so far are laid
use Rattle.std.proofs.Common.{◌≡◌, length, take}
use Rattle.std.specs.Str.{chars}
use Rattle.fx_canvas.specs.Painting.{AreDotted}
use Rattle.fx_canvas.proofs.DottedLemmas.{line_rows}
use Rattle.fx_pens.specs.Lines.{end_of}
use Rattle.fx_canvas.proofs.opaque.lay_letters.Given as goal

abbrev pub invariant-loop-c : goal.invariant-loop-c
invariant-loop-c g l = (l.start ≡ end_of l.fn.first (take (length l.yielded) (chars l.text)) l.pen.scale)
    × AreDotted l.pen l.fn.block.top l.fn.block.bottom l.fn.block.bottom (line_rows l.pen l.fn.block.top l.fn.first (take (length l.yielded) (chars l.text)))
    l.fn.rows l.rows l.fn.painted l.painted
