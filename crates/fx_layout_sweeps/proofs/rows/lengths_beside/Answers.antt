use Rattle.fx_boxes.proofs.RowLemmas.{beside_extent_is}
use Rattle.fx_layout_sweeps.specs.Nodes.{seen}
use Rattle.fx_layout_sweeps.proofs.rows.lengths_beside.Goals as goal

pub returns : goal.returns
returns c =
    let scene = c.args.scene in
    beside_extent_is scene.axis c.args.pane.now
    (seen c.args.rule scene.nodes.now scene.widths.now scene.heights.now c.args.places.now) _
    c.most_at-most.result.min c.most_at-most.result.pref c.most_at-most.ensures.min c.most_at-most.ensures.pref
    (rw c.insets-around.ensures.value at c.pane_extent.ensures.value)
