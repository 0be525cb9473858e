use Rattle.fx_panes_parts.specs.Axes.{pane_axis}
use Rattle.fx_boxes.proofs.RowLemmas.{row_extent_is}
use Rattle.fx_boxes.proofs.rows.row_extent.Goals as goal

pub returns : goal.returns
returns c =
    row_extent_is c.args.axis (pane_axis c.args.axis c.args.pane.now) c.args.children.now _ c.gaps.result
    c.sums_along-sums.result.min c.sums_along-sums.result.pref (rw c.pane_axis-facts.ensures.value at c.gaps.ensures.value)
    c.sums_along-sums.ensures.min c.sums_along-sums.ensures.pref
    (rw (c.insets.ensures.value, c.pane_axis-facts.ensures.value) at c.pane_extent.ensures.value)
