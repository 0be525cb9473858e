use Rattle.std.proofs.Common.{ℕ, ◌≤◌, ◌+◌, take}
use Rattle.fx_base.specs.Names.{numbers}
use Rattle.fx_graph_model.specs.Users.{room_of, Links}
use Rattle.fx_graph_edges.proofs.linking.link.Given as goal

abbrev pub invariant-loop-operand : goal.invariant-loop-operand
invariant-loop-operand l = record {
  linked : Links l.user (numbers (take l.operand-index l.operands)) l.fn.users l.users;
  used : (name : ℕ) → room_of l.fn.users name ≤ room_of l.users name + l.operand-index;
}
