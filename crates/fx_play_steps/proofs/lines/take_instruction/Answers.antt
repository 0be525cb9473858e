-- a line that the stage doesn't take
use Rattle.std.proofs.Common.{◌∙◌, ap, subst, sym}
use Rattle.fx_plain_steps.specs.Lines.{Step, said_by}
use Rattle.fx_play_steps.specs.Taken.{IsMade}
use Rattle.fx_play_steps.specs.Traces.{course_of}
use Rattle.fx_stage_model.specs.Lines.{taken}
use Rattle.fx_play_steps.proofs.StepLemmas.{step_other}
use Rattle.fx_play_steps.proofs.lines.take_instruction.Goals as goal

pub returns-then-not-is_carried-clause-made : goal.returns-then-not-is_carried-clause-made
returns-then-not-is_carried-clause-made g c =
    let world = c.args.stage.now in
    let same = ap (λ text. said_by text world) c.saying.ensures in
    let step = step_other 0 c.args.number c.args.instruction.now world (sym c.is_carried.ensures ∙ c.if-not-is_carried.true) in (
      0,
      subst (λ (s : Step). IsMade s (course_of world c.args.trace.now) (course_of world c.say.new.trace) c.say.result)
          (same ∙ sym step) (c.say.ensures world),
    )

pub returns-clause-few : goal.returns-clause-few
unfolding taken
returns-clause-few g c = c.carry_out-answer.ensures.few
