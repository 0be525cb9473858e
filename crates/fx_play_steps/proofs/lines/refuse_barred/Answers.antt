-- a line that may stand in no action is refused as one of no form
use Rattle.std.proofs.Common.{[], subst, sym}
use Rattle.fx_script_commands.specs.Requests.{command_view}
use Rattle.fx_plain_steps.specs.Lines.{Step}
use Rattle.fx_play_steps.specs.Taken.{IsMade}
use Rattle.fx_play_steps.specs.Traces.{course_of}
use Rattle.fx_play_steps.proofs.StepLemmas.{step_barred}
use Rattle.fx_play_steps.proofs.lines.refuse_barred.Goals as goal

pub returns : goal.returns
returns c =
    let world = c.args.stage.now in (
      0,
      subst (λ (s : Step). IsMade s (course_of world c.args.trace.now) (course_of world c.print_refused.new.trace) c.print_refused.result)
          (sym (step_barred 0 c.args.number (command_view c.args.command.now) world c.requires)) (c.print_refused.ensures [] world),
    )
