use Rattle.std.proofs.Common.{◌≡◌, map, take}
use Rattle.fx_base.specs.Names.{numbers}
use Rattle.fx_graph.specs.Asked.{kept_value}
use Rattle.fx_graph.proofs.reading.kept_values.Given as goal

abbrev pub invariant-loop-operand : goal.invariant-loop-operand
invariant-loop-operand l = l.values.items ≡ map (kept_value l.cache) (numbers (take l.operand-index l.operands))
