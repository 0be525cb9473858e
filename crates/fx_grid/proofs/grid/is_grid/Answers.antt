use Rattle.std.proofs.Common.{sym, ◌∙◌}
use Rattle.fx_grid.proofs.GridTests.{grid_from_test, test_from_grid}
use Rattle.fx_grid.proofs.grid.is_grid.Goals as goal

pub returns : goal.returns
returns c = (
  λ passes. grid_from_test c.args.pane.now c.args.children.now (sym c.has_cells.ensures ∙ passes),
  λ grid. c.has_cells.ensures ∙ test_from_grid c.args.pane.now c.args.children.now grid,
)
