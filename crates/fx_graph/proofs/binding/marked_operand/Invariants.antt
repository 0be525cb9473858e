use Rattle.std.proofs.Common.{◌≡◌, drop}
use Rattle.fx_base.specs.declared.keys.Name.{Name}
use Rattle.fx_graph_model.specs.declared.errors.GraphError.TheVariants.{Cycle}
use Rattle.fx_graph_model.specs.Unread.{marked}
use Rattle.fx_base.specs.Answers.{refused_first}
use Rattle.fx_graph.proofs.binding.marked_operand.Given as goal

abbrev pub invariant-loop-operand : goal.invariant-loop-operand
invariant-loop-operand l =
    refused_first Cycle (λ (operand : Name). marked l.flags operand.0) (drop l.operand-index l.operands)
    ≡ refused_first Cycle (λ (operand : Name). marked l.flags operand.0) l.operands
