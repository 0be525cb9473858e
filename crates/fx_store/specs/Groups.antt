-- The names that change together.
use Rattle.std.specs.Prelude.{ℕ, ◌≡◌, ◌≢◌, ◌↔◌, true, List, AllPairs, Contains}
use Rattle.fx_base.specs.declared.keys.Name.{Name}
use Rattle.fx_store_pairs.specs.Pairs.{joined}
use Rattle.fx_base.specs.Names.{numbers}

-- these are the names that are joined with this one, each once
pub record AreJoinedWith (pairs : List (ℕ × ℕ)) (name : ℕ) (names : List Name) : Type 0 where
  pub members : (other : ℕ) → Contains (numbers names) other ↔ joined pairs name other ≡ true
  pub distinct : AllPairs (λ (one other : Name). one.0 ≢ other.0) names
