use Rattle.std.proofs.Common.{◌∙◌, ap}
use Rattle.fx_base.specs.declared.work.Work.{Work}
use Rattle.fx_base.specs.declared.keys.NodeKey.{NodeKey}
use Rattle.fx_act.proofs.RunLemmas.{last_pass, next_pass}
use Rattle.fx_act.proofs.sending.pass_all.Goals as goal

pub loop-key-preserved : goal.loop-key-preserved
loop-key-preserved g c = (
  next_pass c.args.on (λ (key : NodeKey). (c.args.phase, key)) c.args.nodes.now c.loop-key.key-index _ c.loop-key-test.true
      c.loop-key.invariant.0 c.in_ok-pass_by.ensures.done,
  c.in_ok-pass_by.ensures.others ∙ ap (λ (w : Work g.row.L.Denot). record w { evaluated = c.pass_by.new.work.evaluated }) c.loop-key.invariant.1,
)

pub returns-clause-done : goal.returns-clause-done
returns-clause-done g c =
    last_pass c.args.on (λ (key : NodeKey). (c.args.phase, key)) c.args.nodes.now c.loop-key.key-index c.loop-key-test.false
    c.loop-key.invariant.0
