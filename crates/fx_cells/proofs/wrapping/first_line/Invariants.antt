-- The characters so far fit, and the last place to break among them is known.
-- The room that is left and the bytes so far go by the characters so far.
use Rattle.std.proofs.Common.{length}
use Rattle.std.specs.Str.{chars}
use Rattle.fx_cells.proofs.Scanning.{Scanned}
use Rattle.fx_cells.proofs.wrapping.first_line.Given as goal

abbrev pub invariant-loop-c : goal.invariant-loop-c
invariant-loop-c l = Scanned l.fn.columns (chars l.text) (length l.yielded) l.room l.at l.space
