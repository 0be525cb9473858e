use Rattle.std.proofs.Common.{◌∙◌, ap}
use Rattle.fx_base.specs.declared.work.Work.{Work}
use Rattle.fx_act.proofs.RunLemmas.{last_event, next_event}
use Rattle.fx_act.proofs.sending.send_all.Goals as goal

pub loop-event-preserved : goal.loop-event-preserved
loop-event-preserved g c = (
  next_event c.args.events.now c.loop-event.event-index _ c.loop-event-test.true c.loop-event.invariant.0 c.in_ok-send.ensures.done,
  c.in_ok-send.ensures.others ∙ ap (λ (w : Work g.row.L.Denot). record w { evaluated = c.send.new.work.evaluated }) c.loop-event.invariant.1,
)

pub returns-clause-done : goal.returns-clause-done
returns-clause-done g c = last_event c.args.events.now c.loop-event.event-index c.loop-event-test.false c.loop-event.invariant.0
