-- those so far keep within the limits
use Rattle.std.proofs.Common.{take}
use Rattle.fx_css_types.specs.Limits.{AreShortSelectors}
use Rattle.fx_css_limits.proofs.sheets.are_short.Given as goal

abbrev pub invariant-loop-selector : goal.invariant-loop-selector
invariant-loop-selector l = AreShortSelectors (take l.selector-index l.selectors)
