-- a line of no form is refused as such
use Rattle.std.proofs.Common.{[], subst, sym}
use Rattle.fx_plain_steps.specs.Lines.{Step}
use Rattle.fx_play_steps.specs.Taken.{IsMade}
use Rattle.fx_play_steps.specs.Traces.{course_of}
use Rattle.fx_play_steps.proofs.StepLemmas.{step_bad}
use Rattle.fx_play_steps.proofs.lines.refuse_line.Goals as goal

pub returns : goal.returns
returns c =
    let world = c.args.stage.now in (
      0,
      subst (λ (s : Step). IsMade s (course_of world c.args.trace.now) (course_of world c.print_refused.new.trace) c.print_refused.result)
          (sym (step_bad 0 c.args.number world)) (c.print_refused.ensures [] world),
    )
