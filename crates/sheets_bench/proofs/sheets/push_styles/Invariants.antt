-- the sheets so far are within their limits
use Rattle.fx_css_types.specs.Limits.{AreWithinLimits}
use Rattle.sheets_bench.proofs.sheets.push_styles.Given as goal

abbrev pub invariant-loop : goal.invariant-loop
invariant-loop l = AreWithinLimits l.sheets.items
