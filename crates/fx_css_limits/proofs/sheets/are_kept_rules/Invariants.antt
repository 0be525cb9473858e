-- those so far keep within the limits
use Rattle.std.proofs.Common.{All, take}
use Rattle.fx_css_types.specs.Limits.{IsKeptRule}
use Rattle.fx_css_limits.proofs.sheets.are_kept_rules.Given as goal

abbrev pub invariant-loop-rule : goal.invariant-loop-rule
invariant-loop-rule l = All IsKeptRule (take l.rule-index l.rules)
