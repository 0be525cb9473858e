use Rattle.std.proofs.Common.{◌≡◌, ◌∙◌, ap, drop, subst, sym}
use Rattle.fx_plain_dispatch.specs.Settling.{IsSettled, first_run}
use Rattle.fx_plain_steps.specs.Courses.{Course}
use Rattle.fx_play_steps.specs.Traces.{course_of}
use Rattle.fx_act.specs.declared.settling.Run.{Run}
use Rattle.fx_act.proofs.RunLemmas.{on_ok}
use Rattle.fx_act.proofs.SettleLemmas.{cut_off, ended}
use Rattle.fx_act.proofs.settling.end_runs.Goals as goal

pub returns-then-is_some : goal.returns-then-is_some
returns-then-is_some c =
    let here = course_of c.args.stage.now c.args.trace.now in
    on_ok c.print_overrun.result c.print_overrun.ensures
    (λ printed. subst (λ text. IsSettled c.args.number 0 c.args.place here (record here { text = text }) 0) (sym printed)
    (cut_off (λ (r : Run). (r.place, r.action)) c.args.number c.args.place here
    c.in_ok-next_run.field-0 (sym c.is_some.ensures ∙ c.if-is_some.true)
    (c.in_ok-next_run.ensures.found
    ∙ ap (λ heard. first_run c.args.stage.now c.args.place (drop c.args.place heard)) c.as_slice.ensures.value)))

pub returns : goal.returns
returns c =
    ended (λ (r : Run). (r.place, r.action)) c.args.number c.args.place (course_of c.args.stage.now c.args.trace.now)
    c.in_ok-next_run.field-0 (sym c.is_some.ensures ∙ c.if-is_some.false)
    (c.in_ok-next_run.ensures.found
    ∙ ap (λ heard. first_run c.args.stage.now c.args.place (drop c.args.place heard)) c.as_slice.ensures.value)
