use Rattle.std.proofs.Common.{◌∙◌, ap}
use Rattle.fx_base.specs.declared.work.Work.{Work}
use Rattle.fx_act.proofs.RunLemmas.{last_line, next_line}
use Rattle.fx_act.proofs.running.run_lines.Goals as goal

pub loop-line-preserved : goal.loop-line-preserved
loop-line-preserved g c = (
  next_line c.args.lines.now c.loop-line.line-index c.line-item.result c.loop-line-test.true c.line-item.is
      c.loop-line.invariant.0 c.in_ok-run_line.ensures.done.0 c.in_ok-run_line.ensures.done.1
      (c.in_ok-run_line.ensures.few c.in_ok-run_line.ensures.done.0),
  c.in_ok-run_line.ensures.others ∙ ap (λ (w : Work g.row.L.Denot). record w { evaluated = c.run_line.new.work.evaluated }) c.loop-line.invariant.1,
)

pub returns-clause-done : goal.returns-clause-done
returns-clause-done g c = last_line c.args.lines.now c.loop-line.line-index c.loop-line-test.false c.loop-line.invariant.0
