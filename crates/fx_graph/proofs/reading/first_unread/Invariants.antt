use Rattle.std.proofs.Common.{◌≡◌, ℕ, false, take, Contains}
use Rattle.fx_base.specs.Names.{numbers}
use Rattle.fx_graph_model.specs.Unread.{marked}
use Rattle.fx_graph.proofs.reading.first_unread.Given as goal

abbrev pub invariant-loop-operand : goal.invariant-loop-operand
invariant-loop-operand l = (o : ℕ) → Contains (numbers (take l.operand-index l.operands)) o → marked l.unread o ≡ false
