-- the warnings so far are told
use Rattle.std.proofs.Common.{◌≡◌, ◌++◌, take}
use Rattle.std.specs.List.{flat_map}
use Rattle.fx_stage_text.specs.Printing.{warning_line}
use Rattle.fx_stage_text.proofs.answers.print_warnings.Given as goal

abbrev pub invariant-loop-place : goal.invariant-loop-place
invariant-loop-place l =
    l.out.items ≡ l.fn.out.items ++ flat_map (warning_line l.fn.number) (take l.place-index l.warnings)
