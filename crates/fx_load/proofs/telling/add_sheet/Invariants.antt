-- the lines so far stand in front of those of the parts that are left
use Rattle.std.proofs.Common.{◌≡◌, ◌++◌, drop}
use Rattle.fx_load.specs.Telling.{sheet_lines}
use Rattle.fx_load.proofs.telling.add_sheet.Given as goal

abbrev pub invariant-loop-part : goal.invariant-loop-part
invariant-loop-part l =
    l.text.items ++ sheet_lines l.files (drop l.part-index l.dropped) ≡ l.fn.text.items ++ sheet_lines l.files l.dropped
