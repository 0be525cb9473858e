-- so many pixels are written
use Rattle.std.proofs.Common.{◌≡◌, ◌+◌, ◌*◌, ◌++◌, length, take, replicate}
use Rattle.fx_row_text.specs.Rows.{spaced_text}
use Rattle.fx_row_text.proofs.printing.write_block.Given as goal

abbrev pub invariant-loop-i : goal.invariant-loop-i
invariant-loop-i l =
    (length l.text ≡ length l.fn.text)
    × (take (7 * (l.at + l.i)) l.text ≡ take (7 * l.at) l.fn.text ++ spaced_text (replicate l.i l.spaced.pixel))
