use Rattle.std.proofs.Common.{◌≡◌, ◌++◌, drop}
use Rattle.fx_cascade.specs.Sources.{rule_voices, sources_for}
use Rattle.fx_explain.proofs.collected.push_rule.Given as goal

abbrev pub invariant-loop-place : goal.invariant-loop-place
invariant-loop-place l =
    l.sources.items ++ sources_for l.property (rule_voices l.at l.place (drop l.place l.declarations))
    ≡ l.initial.sources.items ++ sources_for l.property (rule_voices l.at 0 l.declarations)
