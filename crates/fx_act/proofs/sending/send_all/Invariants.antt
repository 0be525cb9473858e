-- what sends the events that are left sends all of them
use Rattle.std.proofs.Common.{◌≡◌, drop}
use Rattle.fx_plain_dispatch.specs.Sending.{AreSent}
use Rattle.fx_play_steps.specs.Traces.{course_of}
use Rattle.fx_act.proofs.RunLemmas.{LeadsTo}
use Rattle.fx_act.proofs.sending.send_all.Given as goal

abbrev pub invariant-loop-event : goal.invariant-loop-event
invariant-loop-event g l =
    LeadsTo AreSent (drop l.event-index l.events) (course_of l.stage l.trace) l.work.evaluated l.events
    (course_of l.fn.stage l.fn.trace) l.fn.work.evaluated
    × (l.work ≡ record l.fn.work { evaluated = l.work.evaluated })
