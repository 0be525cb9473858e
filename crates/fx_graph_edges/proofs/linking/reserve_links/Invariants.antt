use Rattle.std.proofs.Common.{length, take}
use Rattle.fx_base.specs.Names.{numbers}
use Rattle.fx_graph_model.specs.Users.{Roomier}
use Rattle.fx_graph_edges.proofs.linking.reserve_links.Given as goal

abbrev pub invariant-loop-operand : goal.invariant-loop-operand
invariant-loop-operand l = Roomier (numbers (take l.operand-index l.operands)) (length l.operands) l.fn.users l.users
