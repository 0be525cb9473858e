-- Where letters end.
use Rattle.std.specs.Prelude.{◌*◌, ◌+ℤ◌, ℕ, ℤ, pos, List}
use Rattle.fx_cells.specs.Columns.{cells_of}

-- the column behind the cells of characters whose first one begins here
abbrev pub end_of : ℤ → List ℕ → ℕ → ℤ
end_of start cs scale = start +ℤ pos (4 * cells_of cs * scale)
