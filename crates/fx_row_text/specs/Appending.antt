-- What a call does that writes behind others.
use Rattle.std.specs.Prelude.{ℕ, ◌≡◌, List, ◌++◌, Result, OnOk, OnErr}

-- bytes behind others: all of these at Ok, and some at an error
pub record Appends {T E : Type 0} (old new : List ℕ) (result : Result T E) (bytes : List ℕ) : Type 0 where
  pub ok : OnOk result (new ≡ old ++ bytes)
  pub err : OnErr result ((more : List ℕ) × (new ≡ old ++ more))
