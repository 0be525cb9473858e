use Rattle.std.proofs.Common.{sym, ◌∙◌, ap}
use Rattle.std.proofs.lemmas.List.{length-map}
use Rattle.fx_panes_parts.specs.Axes.{gaps}
use Rattle.fx_boxes.proofs.RowLemmas.{row_extent_is}
use Rattle.fx_layout_sweeps.specs.Nodes.{child_at, seen}
use Rattle.fx_layout_sweeps.proofs.rows.lengths_along.Goals as goal

pub returns : goal.returns
returns c =
    let scene = c.args.scene in
    let test = child_at c.args.rule scene.nodes.now scene.widths.now scene.heights.now in
    row_extent_is scene.axis c.args.pane.now
    (seen c.args.rule scene.nodes.now scene.widths.now scene.heights.now c.args.places.now) _ c.gaps.result
    c.sums_at-sums.result.min c.sums_at-sums.result.pref
    (c.gaps.ensures.value ∙ ap (gaps c.args.pane.now.spacing) (sym (length-map c.args.places.now test)))
    c.sums_at-sums.ensures.min c.sums_at-sums.ensures.pref (rw c.insets.ensures.value at c.pane_extent.ensures.value)
