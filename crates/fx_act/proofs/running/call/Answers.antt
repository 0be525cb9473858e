use Rattle.std.proofs.Common.{◌∙◌, sym}
use Rattle.fx_play_steps.specs.Traces.{course_of}
use Rattle.fx_act.proofs.RunLemmas.{run_none}
use Rattle.fx_act.proofs.running.call.Goals as goal

pub returns-in-None-clause-done : goal.returns-in-None-clause-done
returns-in-None-clause-done g c =
    run_none c.args.stage.now c.args.name.now (course_of c.args.stage.now c.args.trace.now) c.args.work.now.evaluated
    (sym c.in-None.is ∙ c.in_ok-action.ensures)
