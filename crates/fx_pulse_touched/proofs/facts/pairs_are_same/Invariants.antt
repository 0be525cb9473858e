-- the tracks so far are the same
use Rattle.std.proofs.Common.{◌≡◌, take}
use Rattle.fx_pulse_touched.proofs.facts.pairs_are_same.Given as goal

abbrev pub invariant-loop-at : goal.invariant-loop-at
invariant-loop-at l = take l.at l.tracks ≡ take l.at l.others
