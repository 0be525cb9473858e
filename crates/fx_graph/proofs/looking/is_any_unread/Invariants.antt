use Rattle.std.proofs.Common.{◌≡◌, ℕ, false, take, Contains}
use Rattle.fx_base.specs.Names.{numbers}
use Rattle.fx_graph_model.specs.Unread.{marked}
use Rattle.fx_graph.proofs.looking.is_any_unread.Given as goal

abbrev pub invariant-loop-name : goal.invariant-loop-name
invariant-loop-name l = (n : ℕ) → Contains (numbers (take l.name-index l.names)) n → marked l.unread n ≡ false
