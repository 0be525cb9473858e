use Rattle.fx_graph.proofs.BindLemmas.{kinds_more}
use Rattle.fx_graph.proofs.binding.kinds_of.Goals as goal

pub loop-operand-preserved : goal.loop-operand-preserved
loop-operand-preserved c =
    kinds_more c.args.entries.now c.args.operands.now c.loop-operand.operand-index c.loop-operand-test.true _ _ c.loop-operand.invariant c.kind_of.ensures _ c.in_ok-push.ensures.items
