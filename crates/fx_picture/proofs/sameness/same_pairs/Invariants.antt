-- the bytes so far are the same
use Rattle.std.proofs.Common.{◌≡◌, take}
use Rattle.fx_picture.proofs.sameness.same_pairs.Given as goal

abbrev pub invariant-loop-at : goal.invariant-loop-at
invariant-loop-at l = take l.at l.bytes ≡ take l.at l.others
