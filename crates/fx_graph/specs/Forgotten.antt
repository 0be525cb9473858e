-- What is asked before names are forgotten, and what is left of their values.
use Rattle.std.specs.Prelude.{ℕ, ◌≡◌, Bool, true, List, [], ◌∷◌, length, Option, Some, None, Contains, slice_set}
use Rattle.fx_base.specs.declared.values.Value.{Value}
use Rattle.fx_expr.specs.Meaning.{no_value}
use Rattle.fx_graph_model.specs.Unread.{marked}
use Rattle.fx_graph_model.specs.Refusals.{operand_count}
use Rattle.fx_graph_model.specs.Users.{Row, Mirrors, users_of}
use Rattle.fx_graph.specs.declared.lists.Lists.{Lists}

-- just these names have their flags set
pub record AreFlagged (names : List ℕ) (flags : List Bool) : Type 0 where
  pub set : (name : ℕ) → Contains names name → marked flags name ≡ true
  pub only : (name : ℕ) → marked flags name ≡ true → Contains names name

-- what stays true of the lists while names are forgotten one by one
pub record Keeps (l : Lists) : Type 0 where
  pub mirrors : Mirrors l.entries.items l.users.items
  pub flags : length l.unread.items ≡ length l.entries.items
  pub values : length l.cache.items ≡ length l.entries.items
  pub counted : l.operand_count ≡ operand_count l.entries.items

-- a user in the row that isn't among the names, if there is one
abbrev pub IsOutside : List ℕ → List ℕ → Option ℕ → Type 0
IsOutside names row None = (user : ℕ) → Contains row user → Contains names user
IsOutside names row (Some user) = Contains row user × (Contains names user → ⊥)

-- the same over the rows of all the names
abbrev pub IsSomeOutside : List ℕ → List Row → Option ℕ → Type 0
IsSomeOutside names users None =
    (name user : ℕ) → Contains names name → Contains (users_of users name) user → Contains names user
IsSomeOutside names users (Some user) =
    (Contains names user → ⊥) × ((name : ℕ) × Contains names name × Contains (users_of users name) user)

abbrev pub reset : List ℕ → List Value → List Value
reset [] cache = cache
reset (name ∷ names) cache = reset names (slice_set cache name no_value)
