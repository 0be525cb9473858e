-- the names so far are the same
use Rattle.std.proofs.Common.{◌≡◌, take}
use Rattle.fx_css_types.proofs.same.named_pairs_are_same.Given as goal

abbrev pub invariant-loop-at : goal.invariant-loop-at
invariant-loop-at l = take l.at l.names ≡ take l.at l.others
