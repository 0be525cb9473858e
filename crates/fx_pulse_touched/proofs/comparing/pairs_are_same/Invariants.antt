-- the items so far are the same
use Rattle.std.proofs.Common.{◌≡◌, take}
use Rattle.fx_pulse_touched.proofs.comparing.pairs_are_same.Given as goal

abbrev pub invariant-loop-at : goal.invariant-loop-at
invariant-loop-at g l = take l.at l.items ≡ take l.at l.others
