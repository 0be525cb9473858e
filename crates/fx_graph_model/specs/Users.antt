-- The uses the other way round: for each name who uses it.
use Rattle.std.specs.Prelude.{ℕ, ◌≡◌, ◌≤◌, ◌⊎◌, List, [], length, slice_index_or, Contains}
use Rattle.fx_graph_model.specs.declared.entries.Entry.{Entry}
use Rattle.fx_graph_model.specs.Uses.{uses}

-- some names, and room for so many more
pub record Row : Type 0 where
  pub items : List ℕ
  pub room : ℕ

abbrev pub no_row : Row
no_row = record { items = []; room = 0 }

abbrev pub users_of : List Row → ℕ → List ℕ
users_of users name = (slice_index_or users name no_row).items

-- each row has just those that use its name
pub record Mirrors (entries : List Entry) (users : List Row) : Type 0 where
  pub rows : length users ≡ length entries
  pub listed : (user name : ℕ) → Contains (uses entries user) name → Contains (users_of users name) user
  pub using : (user name : ℕ) → Contains (users_of users name) user → Contains (uses entries user) name

-- the user is taken out of the rows of these names
pub record Unlinks (user : ℕ) (names : List ℕ) (before now : List Row) : Type 0 where
  pub rows : length now ≡ length before
  pub fewer : (name other : ℕ) → Contains (users_of now name) other → Contains (users_of before name) other
  pub gone : (name : ℕ) → Contains names name → Contains (users_of now name) user → ⊥
  pub kept : (name other : ℕ) → Contains (users_of before name) other
      → (other ≡ user → ⊥) ⊎ (Contains names name → ⊥)
      → Contains (users_of now name) other

-- the user is put into the rows of these names
pub record Links (user : ℕ) (names : List ℕ) (before now : List Row) : Type 0 where
  pub rows : length now ≡ length before
  pub more : (name other : ℕ) → Contains (users_of before name) other → Contains (users_of now name) other
  pub linked : (name : ℕ) → Contains names name → Contains (users_of now name) user
  pub only : (name other : ℕ) → Contains (users_of now name) other
      → Contains (users_of before name) other ⊎ ((other ≡ user) × Contains names name)

abbrev pub room_of : List Row → ℕ → ℕ
room_of users name = (slice_index_or users name no_row).room

-- the rows hold what they held, and those of these names have room for so many more
pub record Roomier (names : List ℕ) (count : ℕ) (before now : List Row) : Type 0 where
  pub rows : length now ≡ length before
  pub same : (name : ℕ) → users_of now name ≡ users_of before name
  pub room : (name : ℕ) → Contains names name → count ≤ room_of now name
