-- whether one of the marks so far is set
use Rattle.std.proofs.Common.{◌≡◌, take}
use Rattle.std.specs.List.{list_any}
use Rattle.fx_pulse_touched.proofs.marks.is_any.Given as goal

abbrev pub invariant-loop-mark : goal.invariant-loop-mark
invariant-loop-mark l = l.any ≡ list_any (λ mark. mark) (take l.mark-index l.marks)
