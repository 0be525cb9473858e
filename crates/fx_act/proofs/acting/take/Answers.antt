use Rattle.fx_play_steps.specs.Traces.{course_of}
use Rattle.fx_script_commands.specs.Requests.{line_view}
use Rattle.fx_act.proofs.RunLemmas.{on_ok}
use Rattle.fx_act.proofs.StartLemmas.{carried_fresh, carried_line}
use Rattle.fx_act.proofs.acting.take.Goals as goal

pub returns-clause-done : goal.returns-clause-done
returns-clause-done g c =
    let line = line_view c.args.line in
    let final = course_of c.take_line.new.stage c.take_line.new.trace in
    on_ok c.take_line.result
    (carried_fresh line c.args.stage.now c.take_line.new.stage c.args.trace.now c.take_line.new.trace c.args.work.now.evaluated
    c.take_line.new.work.evaluated c.take_line.result c.requires c.take_line.ensures.made c.take_line.ensures.few)
    (λ carried. record {
      cost = carried.cost;
      done = carried_line c.args.picture.now.entries line line.request c.args.stage.now final carried.cost c.in_default.ensures
          carried.done;
      few = carried.few;
    })
