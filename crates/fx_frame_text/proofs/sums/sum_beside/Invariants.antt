-- the pixels so far are added up, each at most the greatest of three bytes
use Rattle.std.proofs.Common.{◌≡◌, ◌≤◌, ◌+◌, ◌*◌, take, sum}
use Rattle.fx_frame_text.proofs.sums.sum_beside.Given as goal

abbrev pub invariant-loop-at : goal.invariant-loop-at
invariant-loop-at l = record {
  sum : l.total ≡ sum (take l.at l.one) + sum (take l.at l.other);
  small : l.total ≤ l.at * 33554430;
}
