-- What is counted, with what is left to count, is the whole.
-- The iterator's part stands as it is printed.
use Rattle.std.proofs.Common.{◌≡◌, ◌+◌, length, drop}
use Rattle.std.specs.Str.{chars}
use Rattle.fx_cells.specs.Columns.{cells_of}
use Rattle.fx_cells.proofs.columns.cells.Given as goal

abbrev pub invariant-loop-c : goal.invariant-loop-c
invariant-loop-c l = l.total + cells_of (drop (length l.yielded) (chars l.text)) ≡ cells_of (chars l.text)
