use Rattle.std.proofs.Common.{List, subst}
use Rattle.fx_event_lines.specs.Starting.{started}
use Rattle.fx_event_lines.specs.declared.events.Event.{Event}
use Rattle.fx_plain_dispatch.specs.Sending.{AreSent}
use Rattle.fx_plain_dispatch.specs.Taking.{IsStarted}
use Rattle.fx_play_steps.specs.Traces.{course_of}
use Rattle.fx_act.proofs.RunLemmas.{at_no_cost, on_ok}
use Rattle.fx_act.proofs.StartLemmas.{sent_start}
use Rattle.fx_act.proofs.acting.take_event_line.Goals as goal

pub returns-in-Ok-clause-done : goal.returns-in-Ok-clause-done
returns-in-Ok-clause-done g c =
    let final = course_of c.send_all.new.stage c.send_all.new.trace in
    on_ok c.send_all.result c.send_all.ensures.done
    (λ sent. record {
      cost = sent.cost;
      done = sent_start c.args.number (started c.args.picture.now.entries c.args.instruction.now c.args.stage.now)
          c.args.stage.now c.start.new.stage c.in-Ok.events c.args.trace.now final sent.cost c.requires c.in-Ok.ensures
          (subst (λ (events : List Event). AreSent events (course_of c.start.new.stage c.args.trace.now) final sent.cost)
          c.as_slice.ensures.value sent.done);
      few = sent.few;
    })

pub returns-in-Err-clause-done : goal.returns-in-Err-clause-done
returns-in-Err-clause-done g c =
    let starts = started c.args.picture.now.entries c.args.instruction.now c.args.stage.now in
    on_ok c.print_error.result (c.print_error.ensures starts c.args.stage.now c.in-Err.ensures)
    (at_no_cost (IsStarted c.args.number starts c.args.stage.now (course_of c.start.new.stage c.print_error.new.trace))
    c.args.work.now.evaluated)
