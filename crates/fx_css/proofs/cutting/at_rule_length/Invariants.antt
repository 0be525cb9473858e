-- The length up to here, and that of the rest, is the whole.
use Rattle.std.proofs.Common.{◌≡◌, ◌+◌, length}
use Rattle.fx_css.specs.Numbered.{shown}
use Rattle.fx_css.specs.Cutting.{at_rule_length}
use Rattle.fx_css.proofs.cutting.at_rule_length.Given as goal

abbrev pub invariant-loop-first : goal.invariant-loop-first
invariant-loop-first l = record {
  whole : l.taken + at_rule_length (shown l.rest) ≡ at_rule_length (shown l.part);
  within : l.taken + length (shown l.rest) ≡ length (shown l.part);
}

abbrev pub decreases-loop-first : goal.decreases-loop-first
decreases-loop-first l = length (shown l.rest)
