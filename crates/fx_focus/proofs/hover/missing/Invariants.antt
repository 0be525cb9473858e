use Rattle.std.proofs.Common.{◌≡◌, take}
use Rattle.fx_focus.specs.Hover.{missing}
use Rattle.fx_focus.proofs.hover.missing.Given as goal

abbrev pub invariant-loop-key : goal.invariant-loop-key
invariant-loop-key l = l.found.items ≡ missing (take l.key-index l.keys) l.others
