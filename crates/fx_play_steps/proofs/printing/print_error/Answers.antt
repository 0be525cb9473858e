-- a word that refuses a line
use Rattle.std.proofs.Common.{Err, subst}
use Rattle.fx_stage_model.specs.Taking.{IsTaken}
use Rattle.fx_stage_types.specs.declared.answers.StageError.{StageError}
use Rattle.fx_play_steps.proofs.StepLemmas.{refused_so}
use Rattle.fx_play_steps.proofs.printing.print_error.Goals as goal

pub returns-in-Refused : goal.returns-in-Refused
returns-in-Refused c = λ taken before is.
    refused_so c.args.number c.args.path.now c.in-Refused.word taken before c.args.stage.now c.args.trace.now
    c.print_refused.new.trace c.print_refused.result
    (subst (λ (e : StageError). IsTaken taken before c.args.stage.now (Err e)) c.in-Refused.is is) c.print_refused.ensures
