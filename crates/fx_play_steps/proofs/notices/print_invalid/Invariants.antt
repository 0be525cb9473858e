-- those so far are told
use Rattle.std.proofs.Common.{◌≡◌, ◌++◌, take}
use Rattle.std.specs.List.{flat_map}
use Rattle.fx_stage_text.specs.Printing.{invalid_line}
use Rattle.fx_play_steps.proofs.notices.print_invalid.Given as goal

abbrev pub invariant-loop-notice : goal.invariant-loop-notice
invariant-loop-notice l =
    l.out.items ≡ l.fn.out.items ++ flat_map (invalid_line l.fn.stage.names.written) (take l.notice-index l.notices)
