use Rattle.std.proofs.Common.{◌≡◌, ◌++◌, drop}
use Rattle.fx_cascade.specs.Sources.{declared_voices, sources_for}
use Rattle.fx_explain.proofs.collected.push_matched.Given as goal

abbrev pub invariant-loop-at : goal.invariant-loop-at
invariant-loop-at l =
    l.sources.items ++ sources_for l.property (declared_voices l.sheets l.at (drop l.at l.matched))
    ≡ l.initial.sources.items ++ sources_for l.property (declared_voices l.sheets 0 l.matched)
