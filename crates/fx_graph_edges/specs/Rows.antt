-- The row of a name among those that were made.
use Rattle.std.specs.Prelude.{ℕ, List, slice_index_or}
use Rattle.fx_graph_model.specs.Users.{Row, no_row}

abbrev pub row_of : List Row → ℕ → Row
row_of users name = slice_index_or users name no_row
