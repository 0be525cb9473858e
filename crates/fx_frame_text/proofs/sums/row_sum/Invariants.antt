-- the pixels so far are added up, each at most the greatest of three bytes
use Rattle.std.proofs.Common.{◌≡◌, ◌≤◌, ◌*◌, ◌-◌, take, sum, length}
use Rattle.fx_frame_text.proofs.sums.row_sum.Given as goal

abbrev pub invariant-loop-at : goal.invariant-loop-at
invariant-loop-at l = record {
  sum : l.total ≡ sum (take l.at l.row);
  small : l.total ≤ l.at * 16777215;
  within : l.at ≤ length l.row;
}

abbrev pub decreases-loop-at : goal.decreases-loop-at
decreases-loop-at l = length l.row - l.at
