use Rattle.std.proofs.Common.{◌≡◌, drop}
use Rattle.fx_cascade.specs.Sources.{declared_voices}
use Rattle.fx_cascade.specs.Winners.{heard}
use Rattle.fx_cascade.proofs.one_property.best_declared.Given as goal

abbrev pub invariant-loop-at : goal.invariant-loop-at
invariant-loop-at l =
    heard l.matched l.property l.best (declared_voices l.sheets l.at (drop l.at l.matched))
    ≡ heard l.matched l.property l.fn.so_far (declared_voices l.sheets 0 l.matched)
