-- What is done, and that it evaluates no more expressions than it may.
use Rattle.std.specs.Prelude.{ℕ, ◌+◌, ◌≤◌}

-- It is done at some cost, and the count of evaluations rises by no more than this.
pub record IsDoneWithin (IsDone : ℕ → Type 0) (old new : ℕ) : Type 0 where
  pub cost : ℕ
  pub done : IsDone cost
  pub few : new ≤ old + cost
