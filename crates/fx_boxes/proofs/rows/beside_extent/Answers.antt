use Rattle.fx_panes_parts.specs.Axes.{pane_axis}
use Rattle.fx_boxes.proofs.RowLemmas.{beside_extent_is}
use Rattle.fx_boxes.proofs.rows.beside_extent.Goals as goal

pub returns : goal.returns
returns c =
    beside_extent_is c.args.axis (pane_axis c.args.axis c.args.pane.now) c.args.children.now _ c.most_along-most.result.min
    c.most_along-most.result.pref c.most_along-most.ensures.min c.most_along-most.ensures.pref
    (rw (c.insets-around.ensures.value, c.pane_axis-facts.ensures.value) at c.pane_extent.ensures.value)
