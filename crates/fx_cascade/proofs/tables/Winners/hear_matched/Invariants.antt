use Rattle.std.proofs.Common.{◌≡◌, ℕ, List, drop}
use Rattle.fx_cascade.specs.Sources.{declared_voices}
use Rattle.fx_cascade.specs.Tables.{source_of}
use Rattle.fx_cascade.specs.Winners.{heard}
use Rattle.fx_cascade.proofs.tables.Winners.hear_matched.Given as goal

abbrev pub invariant-loop-at : goal.invariant-loop-at
invariant-loop-at l = (name : List ℕ)
    → heard l.matched name (source_of l.self name) (declared_voices l.sheets l.at (drop l.at l.matched))
    ≡ heard l.matched name (source_of l.initial.self name) (declared_voices l.sheets 0 l.matched)
