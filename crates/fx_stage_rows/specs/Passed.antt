-- How a class's properties are declared, and what is left of a node that wasn't made.
use Rattle.std.specs.Prelude.{◌≡◌, Bool, List, map}
use Rattle.fx_base.specs.declared.values.Value.{Value}
use Rattle.fx_graph_model.specs.declared.entries.Entry.{Entry}
use Rattle.fx_kinds.specs.declared.classes.Class.{Class}
use Rattle.fx_kinds.specs.Properties.{PropertyRow, rows_of}
use Rattle.fx_store_model.specs.Stored.{Stored}
use Rattle.fx_stage_model.specs.Taking.{with_more}

-- whether the player alone changes it, and what it holds before anything sets it
abbrev pub declared_row : Class → PropertyRow → Bool × Value
declared_row class row = (row.read_only, row.initial class)

abbrev pub declared_rows : Class → List (Bool × Value)
declared_rows class = map (declared_row class) (rows_of class)

-- nothing changed, but that numbers of names were given to properties that nobody has
pub record IsPassed (before now : Stored) : Type 0 where
  pub others : List Entry
  pub rest : now ≡ with_more others before
