-- What nodes have of their own, and for how many more there is room.
use Rattle.std.specs.Prelude.{ℕ, List}
use Rattle.fx_stage_types.specs.Tables.{NodeTable, Paths}

pub record Roomy : Type 0 where
  pub map : NodeTable
  pub room : ℕ

-- names with what they stand for, in the order in which they were given, and for how many more names there is room
pub record Named (X : Type 0) : Type 0 where
  pub entries : List (List ℕ × X)
  pub room : ℕ

-- the paths of nodes, and for how many more there is room
pub record RoomyPaths : Type 0 where
  pub list : Paths
  pub room : ℕ
