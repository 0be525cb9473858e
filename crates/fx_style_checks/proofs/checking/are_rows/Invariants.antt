-- those so far are of rows
use Rattle.std.proofs.Common.{take}
use Rattle.fx_cascade.specs.Tables.{AreRows}
use Rattle.fx_style_checks.proofs.checking.are_rows.Given as goal

abbrev pub invariant-loop-code : goal.invariant-loop-code
invariant-loop-code l = AreRows (take l.code-index l.codes)
