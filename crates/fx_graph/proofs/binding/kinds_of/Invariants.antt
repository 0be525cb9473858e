use Rattle.std.proofs.Common.{◌≡◌, map, take}
use Rattle.fx_base.specs.Names.{numbers}
use Rattle.fx_graph_model.specs.Refusals.{kind_at}
use Rattle.fx_graph.proofs.binding.kinds_of.Given as goal

abbrev pub invariant-loop-operand : goal.invariant-loop-operand
invariant-loop-operand l = l.kinds.items ≡ map (kind_at l.entries) (numbers (take l.operand-index l.operands))
