-- what settles all that is left settles the whole
use Rattle.std.proofs.Common.{◌≡◌, ◌-◌}
use Rattle.fx_play_steps.specs.Traces.{course_of}
use Rattle.fx_act.proofs.SettleLemmas.{LeadsToSettled}
use Rattle.fx_act.proofs.settling.settle.Given as goal

abbrev pub invariant-loop-ran : goal.invariant-loop-ran
invariant-loop-ran g l =
    LeadsToSettled l.fn.number (1000 - l._ran) l.place (course_of l.stage l.trace) l.work.evaluated
    (course_of l.fn.stage l.fn.trace) l.fn.work.evaluated
    × (l.work ≡ record l.fn.work { evaluated = l.work.evaluated })
