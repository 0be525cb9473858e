use Rattle.fx_panes.proofs.EachLemmas.{each_placed}
use Rattle.fx_panes_parts.specs.declared.axes.Axis.TheVariants.{Across, Down}
use Rattle.fx_grid.specs.Grid.{grid_spans}
use Rattle.fx_grid.proofs.GridLemmas.{one_grid}
use Rattle.fx_grid.proofs.grid.place.Goals as goal

pub returns-clause-each : goal.returns-clause-each
returns-clause-each g c =
    each_placed (grid_spans Across c.args.pane.now.columns) (grid_spans Down c.args.pane.now.rows)
    (one_grid Across c.args.pane.now.columns) (one_grid Down c.args.pane.now.rows)
    c.args.pane.now c.args.children.now _ _ c.rects.result c.rects.ensures
