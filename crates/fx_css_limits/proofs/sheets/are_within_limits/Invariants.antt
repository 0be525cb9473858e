-- those so far keep within the limits
use Rattle.std.proofs.Common.{take}
use Rattle.fx_css_types.specs.Limits.{AreWithinLimits}
use Rattle.fx_css_limits.proofs.sheets.are_within_limits.Given as goal

abbrev pub invariant-loop-sheet : goal.invariant-loop-sheet
invariant-loop-sheet l = AreWithinLimits (take l.sheet-index l.sheets)
