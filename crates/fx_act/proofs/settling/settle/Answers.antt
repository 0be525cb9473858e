use Rattle.std.proofs.Common.{◌≡◌, ◌∙◌, ◌-◌, List, ap, arith, sym, subst, drop}
use Rattle.fx_base.specs.declared.work.Work.{Work}
use Rattle.fx_plain_dispatch.specs.Costs.{IsDoneWithin}
use Rattle.fx_plain_dispatch.specs.Running.{AreRun}
use Rattle.fx_plain_dispatch.specs.Settling.{IsSettled, first_run}
use Rattle.fx_play_steps.specs.Traces.{course_of}
use Rattle.fx_act.proofs.RunLemmas.{at_no_cost, on_ok}
use Rattle.fx_act.proofs.SettleLemmas.{none_left, one_more_ran}
use Rattle.fx_script_commands.specs.Requests.{Numbered}
use Rattle.std.specs.Option.{option_map}
use Rattle.fx_act.specs.declared.settling.Run.{Run}
use Rattle.fx_act.proofs.settling.settle.Goals as goal

pub returns-in-None-clause-settled : goal.returns-in-None-clause-settled
returns-in-None-clause-settled g c =
    let found = c.in_ok-run.ensures.found in
    none_left
    (sym (ap (option_map (λ (r : Run). (r.place, r.action))) c.in-None.is)
    ∙ found ∙ ap (λ heard. first_run c.loop-ran.stage c.loop-ran.place (drop c.loop-ran.place heard)) c.as_slice.ensures.value)
    c.loop-ran.invariant.0

pub loop-ran-preserved : goal.loop-ran-preserved
loop-ran-preserved g c =
    let found = c.in_ok-run.ensures.found in (
      one_more_ran {left = 1000 - c.loop-ran._ran} _ (c.in-Some.run'.place, c.in-Some.run'.action) (omega (arith, c.loop-ran-test.true))
          (sym (ap (option_map (λ (r : Run). (r.place, r.action))) c.in-Some.is)
          ∙ found ∙ ap (λ heard. first_run c.loop-ran.stage c.loop-ran.place (drop c.loop-ran.place heard)) c.as_slice.ensures.value)
          (subst (λ (lines : List Numbered). IsDoneWithin (AreRun lines (course_of c.loop-ran.stage c.loop-ran.trace)
          (course_of c.run_lines.new.stage c.run_lines.new.trace)) c.loop-ran.work.evaluated c.run_lines.new.work.evaluated)
          c.lines.ensures c.in_ok-run_lines-in-Some.ensures.done)
          c.loop-ran.invariant.0,
      c.in_ok-run_lines-in-Some.ensures.others ∙ ap (λ (w : Work g.row.L.Denot). record w { evaluated = c.run_lines.new.work.evaluated }) c.loop-ran.invariant.1,
    )

pub returns-clause-settled : goal.returns-clause-settled
returns-clause-settled g c =
    on_ok c.end_runs.result c.end_runs.ensures
    (λ ended. c.loop-ran.invariant.0 _ c.loop-ran.work.evaluated
    (at_no_cost (IsSettled c.args.number (1000 - c.loop-ran._ran) c.loop-ran.place (course_of c.loop-ran.stage c.loop-ran.trace)
    (course_of c.loop-ran.stage c.end_runs.new.trace)) c.loop-ran.work.evaluated
    (subst (λ n. IsSettled c.args.number n c.loop-ran.place (course_of c.loop-ran.stage c.loop-ran.trace)
    (course_of c.loop-ran.stage c.end_runs.new.trace) 0) (omega (arith, c.loop-ran-test.false)) ended)))
