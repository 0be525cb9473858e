-- what calls the actions that are left calls all of them
use Rattle.std.proofs.Common.{◌≡◌, drop}
use Rattle.fx_plain_dispatch.specs.Running.{AreCalled}
use Rattle.fx_play_steps.specs.Traces.{course_of}
use Rattle.fx_act.proofs.RunLemmas.{LeadsTo}
use Rattle.fx_act.proofs.running.call_all.Given as goal

abbrev pub invariant-loop-name : goal.invariant-loop-name
invariant-loop-name g l =
    LeadsTo AreCalled (drop l.name-index l.names) (course_of l.stage l.trace) l.work.evaluated l.names
    (course_of l.fn.stage l.fn.trace) l.fn.work.evaluated
    × (l.work ≡ record l.fn.work { evaluated = l.work.evaluated })
