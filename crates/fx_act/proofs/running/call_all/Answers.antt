use Rattle.std.proofs.Common.{◌∙◌, ap}
use Rattle.fx_base.specs.declared.work.Work.{Work}
use Rattle.fx_act.proofs.RunLemmas.{last_call, next_call}
use Rattle.fx_act.proofs.running.call_all.Goals as goal

pub loop-name-preserved : goal.loop-name-preserved
loop-name-preserved g c = (
  next_call c.args.names.now c.loop-name.name-index c.name-item.result c.loop-name-test.true c.name-item.is
      c.loop-name.invariant.0 c.in_ok-call.ensures.done,
  c.in_ok-call.ensures.others ∙ ap (λ (w : Work g.row.L.Denot). record w { evaluated = c.call.new.work.evaluated }) c.loop-name.invariant.1,
)

pub returns-clause-done : goal.returns-clause-done
returns-clause-done g c = last_call c.args.names.now c.loop-name.name-index c.loop-name-test.false c.loop-name.invariant.0
