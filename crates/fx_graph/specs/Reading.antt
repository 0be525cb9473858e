-- What a read of several names leaves where memory is wanting.
use Rattle.std.specs.Prelude.{ℕ, ◌≡◌, Bool, true, false, List, length}
use Rattle.fx_graph_model.specs.declared.entries.Entry.{Entry}
use Rattle.fx_graph_model.specs.Unread.{marked, is_reached}

-- some of the names that a read of all these needs were read, and nothing else changed
pub record ArePartRead (entries : List Entry) (names : List ℕ) (before now : List Bool) : Type 0 where
  pub flags : length now ≡ length before
  pub fewer : (other : ℕ) → marked now other ≡ true → marked before other ≡ true
  pub needed : (other : ℕ) → marked before other ≡ true → marked now other ≡ false
      → is_reached entries names other ≡ true
