-- the pixels so far are written
use Rattle.std.proofs.Common.{◌-◌, length}
use Rattle.fx_row_text.specs.Writing.{IsWritten}
use Rattle.fx_row_text.proofs.printing.write_behind.Given as goal

abbrev pub invariant-loop-at : goal.invariant-loop-at
invariant-loop-at l = IsWritten l.text l.row l.at

abbrev pub decreases-loop-at : goal.decreases-loop-at
decreases-loop-at l = length l.row - l.at
