use Rattle.std.proofs.Common.{ℕ, take, Contains}
use Rattle.fx_base.specs.Names.{numbers}
use Rattle.fx_graph_model.specs.Users.{users_of}
use Rattle.fx_graph.proofs.forgetting.bound_outside.Given as goal

abbrev pub invariant-loop-name : goal.invariant-loop-name
invariant-loop-name l =
    (name user : ℕ) → Contains (numbers (take l.name-index l.names)) name → Contains (users_of l.users name) user → Contains (numbers l.names) user
