-- The laws of control characters.
-- They are facts about the widths alone.
use Rattle.fx_cells.proofs.Widths.{cell_width_low, cell_width_high}
use Rattle.fx_cells.proofs.columns.control_characters_take_no_cell.Goals as goal

pub returns-clause-low : goal.returns-clause-low
returns-clause-low c = cell_width_low

pub returns-clause-high : goal.returns-clause-high
returns-clause-high c = cell_width_high
