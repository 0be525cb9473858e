use Rattle.std.proofs.Common.{◌≡◌, ◌∙◌, List, ℕ, ap, sym, subst}
use Rattle.fx_events.specs.Handlers.{calls_of}
use Rattle.fx_plain_dispatch.specs.Costs.{IsDoneWithin}
use Rattle.fx_plain_dispatch.specs.Running.{AreCalled}
use Rattle.fx_play_steps.specs.Traces.{course_of}
use Rattle.fx_act.proofs.RunLemmas.{on_ok}
use Rattle.fx_act.proofs.SendLemmas.{nothing_called, something_called}
use Rattle.fx_act.proofs.sending.pass_by.Goals as goal

pub returns-then-is_passed_over-clause-done : goal.returns-then-is_passed_over-clause-done
returns-then-is_passed_over-clause-done g c =
    nothing_called c.args.on c.args.phase c.args.key (course_of c.args.stage.now c.args.trace.now) c.args.work.now.evaluated
    (sym c.if-is_passed_over.true ∙ c.is_passed_over.ensures)

pub returns-clause-done : goal.returns-clause-done
returns-clause-done g c =
    let here = course_of c.args.stage.now c.args.trace.now in
    let now = course_of c.call_all.new.stage c.call_all.new.trace in
    let old = c.args.work.now.evaluated in
    let new = c.call_all.new.work.evaluated in
    let same : c.as_slice.result.now ≡ calls_of c.args.stage.now.graph.handlers c.args.key c.args.on c.args.phase =
    c.as_slice.ensures.value ∙ c.in_ok-calls.ensures
    ∙ ap (λ handlers. calls_of handlers c.args.key c.args.on c.args.phase)
    (c.handlers.ensures ∙ ap (λ graph. graph.handlers) c.graph.ensures) in
    on_ok c.call_all.result c.call_all.ensures.done
    (λ called. something_called c.args.on c.args.phase c.args.key here now old new
    (sym c.if-is_passed_over.false ∙ c.is_passed_over.ensures)
    (subst (λ (names : List (List ℕ)). IsDoneWithin (AreCalled names here now) old new) same called))
