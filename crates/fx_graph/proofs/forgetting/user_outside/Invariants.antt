use Rattle.std.proofs.Common.{ℕ, List, take, Contains}
use Rattle.fx_graph.specs.Forgotten.{AreFlagged}
use Rattle.fx_graph.proofs.forgetting.user_outside.Given as goal

abbrev pub invariant-loop-user : goal.invariant-loop-user
invariant-loop-user l =
    (names : List ℕ) → AreFlagged names l.flags → (user : ℕ) → Contains (take l.user-index l.row) user → Contains names user
