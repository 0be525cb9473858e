use Rattle.std.proofs.Common.{◌≡◌, sym, ◌∙◌}
use Rattle.fx_boxes.specs.Rows.{beside_span}
use Rattle.fx_panes_parts.specs.declared.axes.ChildAxis.{ChildAxis}
use Rattle.fx_layout_sweeps.specs.Nodes.{extent_at}
use Rattle.fx_layout_sweeps.proofs.PlainChildren.{plain_after, plain_before, plain_said}
use Rattle.fx_layout_sweeps.proofs.parts.beside_at.Goals as goal

pub returns-then-is_plain : goal.returns-then-is_plain
returns-then-is_plain c =
    let scene = c.args.scene in
    let across = extent_at scene.widths.now c.args.place in
    let down = extent_at scene.heights.now c.args.place in
    plain_said (λ (child : ChildAxis). c.beside_of.result ≡ beside_span c.args.pane.now c.args.length_beside child)
    scene.axis c.args.rule scene.nodes.now scene.widths.now scene.heights.now c.args.place
    (sym c.is_plain.ensures ∙ c.if-is_plain.true)
    (λ node. c.beside_of.ensures _ (c.lengths_at-lengths.ensures node) (plain_before scene.axis node across down)
    (plain_after scene.axis node across down))
