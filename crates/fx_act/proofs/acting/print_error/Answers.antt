use Rattle.std.proofs.Common.{Err, subst}
use Rattle.fx_event_lines.specs.Starting.{IsStarted as HasStarted}
use Rattle.fx_stage_types.specs.declared.answers.StageError.{StageError}
use Rattle.fx_act.proofs.StartLemmas.{refused_start}
use Rattle.fx_act.proofs.acting.print_error.Goals as goal

pub returns-in-Refused : goal.returns-in-Refused
returns-in-Refused c = λ starts before is.
    refused_start c.args.number c.in-Refused.word starts before c.args.stage.now c.args.trace.now c.print_refused.new.trace
    c.print_refused.result c.requires
    (subst (λ (e : StageError). HasStarted starts before c.args.stage.now (Err e)) c.in-Refused.is is) c.print_refused.ensures
