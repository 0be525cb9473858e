use Rattle.fx_panes_parts.specs.Axes.{child_axis}
use Rattle.fx_layout_sweeps.specs.Nodes.{child_at}
use Rattle.fx_layout_sweeps.proofs.PlainChildren.{spans_done}
use Rattle.fx_layout_sweeps.proofs.rows.spans_along.Goals as goal

pub returns : goal.returns
returns c =
    let scene = c.args.scene in
    spans_done c.loop-place.row (child_axis scene.axis)
    (child_at c.args.rule scene.nodes.now scene.widths.now scene.heights.now) c.args.places.now _ c.loop-place-test.false _ _
    c.loop-place.invariant.same
