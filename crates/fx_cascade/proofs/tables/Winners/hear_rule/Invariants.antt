use Rattle.std.proofs.Common.{◌≡◌, ℕ, List, drop}
use Rattle.fx_cascade.specs.Sources.{rule_voices}
use Rattle.fx_cascade.specs.Tables.{source_of}
use Rattle.fx_cascade.specs.Winners.{heard}
use Rattle.fx_cascade.proofs.tables.Winners.hear_rule.Given as goal

abbrev pub invariant-loop-place : goal.invariant-loop-place
invariant-loop-place l = (name : List ℕ)
    → heard l.matched name (source_of l.self name) (rule_voices l.at l.place (drop l.place l.declarations))
    ≡ heard l.matched name (source_of l.initial.self name) (rule_voices l.at 0 l.declarations)
