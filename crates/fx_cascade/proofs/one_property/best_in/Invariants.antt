use Rattle.std.proofs.Common.{◌≡◌, drop}
use Rattle.fx_cascade.specs.Sources.{rule_voices}
use Rattle.fx_cascade.specs.Winners.{heard}
use Rattle.fx_cascade.proofs.one_property.best_in.Given as goal

abbrev pub invariant-loop-place : goal.invariant-loop-place
invariant-loop-place l =
    heard l.matched l.property l.best (rule_voices l.at l.place (drop l.place l.declarations))
    ≡ heard l.matched l.property l.fn.so_far (rule_voices l.at 0 l.declarations)
