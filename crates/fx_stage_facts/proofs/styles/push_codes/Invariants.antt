use Rattle.std.proofs.Common.{◌≡◌, ◌++◌, take}
use Rattle.fx_stage_facts.specs.Styles.{styled_codes}
use Rattle.fx_stage_facts.proofs.styles.push_codes.Given as goal

-- those of the properties so far
abbrev pub invariant-loop-row : goal.invariant-loop-row
invariant-loop-row l = l.codes ≡ l.fn.codes ++ styled_codes l.store.entries l.first (take l.row-index l.styled)
