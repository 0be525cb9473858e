-- those so far have few compounds
use Rattle.std.proofs.Common.{◌≤◌, All, length, take}
use Rattle.fx_css_types.specs.declared.selectors.Selector.{Selector}
use Rattle.fx_css_limits.proofs.sheets.have_few_compounds.Given as goal

abbrev pub invariant-loop-selector : goal.invariant-loop-selector
invariant-loop-selector l = All (λ (s : Selector). length s.compounds ≤ 16) (take l.selector-index l.selectors)
