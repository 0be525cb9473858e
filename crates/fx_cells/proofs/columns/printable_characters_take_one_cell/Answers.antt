-- The law of printable characters.
-- It is a fact about the widths alone.
use Rattle.fx_cells.proofs.Widths.{cell_width_printable}
use Rattle.fx_cells.proofs.columns.printable_characters_take_one_cell.Goals as goal

pub returns : goal.returns
returns c = cell_width_printable
