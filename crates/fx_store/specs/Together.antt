-- Properties that are declared one after another.
use Rattle.std.specs.Prelude.{ℕ, ◌≡◌, Bool, List, take}
use Rattle.std.specs.List.{fold}
use Rattle.fx_base.specs.Printing.{kind_of}
use Rattle.fx_base.specs.declared.values.Value.{Value}
use Rattle.fx_store_model.specs.Making.{after_declared}
use Rattle.fx_store_model.specs.Stored.{Stored}

-- a further property with this value, which the player alone changes or not
abbrev pub with_declared : Stored → Bool × Value → Stored
with_declared stored row = after_declared (kind_of row.1) row.0 row.1 stored

abbrev pub with_all_declared : List (Bool × Value) → Stored → Stored
with_all_declared rows stored = fold with_declared stored rows

-- so many of them are declared, and no others
pub record AreFirstStored (rows : List (Bool × Value)) (before now : Stored) : Type 0 where
  pub count : ℕ
  pub first : now ≡ with_all_declared (take count rows) before
