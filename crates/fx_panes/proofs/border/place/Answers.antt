use Rattle.fx_panes_parts.specs.declared.axes.Axis.TheVariants.{Across, Down}
use Rattle.fx_panes.specs.Border.{border_spans}
use Rattle.fx_panes.proofs.EachLemmas.{one_border, each_placed}
use Rattle.fx_panes.proofs.border.place.Goals as goal

pub returns-clause-each : goal.returns-clause-each
returns-clause-each g c =
    each_placed (border_spans Across) (border_spans Down) (one_border Across) (one_border Down) c.args.pane.now c.args.children.now _ _ c.rects.result c.rects.ensures
