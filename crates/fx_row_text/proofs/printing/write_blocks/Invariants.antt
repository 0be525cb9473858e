-- the pixels so far are written
use Rattle.std.proofs.Common.{◌≤◌, ◌-◌, length}
use Rattle.fx_row_text.specs.Writing.{IsWritten}
use Rattle.fx_row_text.proofs.printing.write_blocks.Given as goal

abbrev pub invariant-loop-spaced : goal.invariant-loop-spaced
invariant-loop-spaced l = IsWritten l.text l.row l.at × (l.from ≤ l.at)

abbrev pub decreases-loop-spaced : goal.decreases-loop-spaced
decreases-loop-spaced l = length l.row - l.at
