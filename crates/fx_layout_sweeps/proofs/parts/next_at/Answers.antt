use Rattle.std.proofs.Common.{◌≡◌, ◌∷◌, List, sym, ◌∙◌}
use Rattle.fx_boxes.specs.Rows.{spans_by}
use Rattle.fx_panes_parts.specs.declared.axes.ChildAxis.{ChildAxis}
use Rattle.fx_layout_sweeps.specs.Nodes.{extent_at}
use Rattle.fx_layout_sweeps.proofs.PlainChildren.{plain_after, plain_before, plain_said}
use Rattle.fx_layout_sweeps.proofs.parts.next_at.Goals as goal

pub returns-then-is_plain-clause-next : goal.returns-then-is_plain-clause-next
returns-then-is_plain-clause-next c =
    let scene = c.args.scene in
    let across = extent_at scene.widths.now c.args.place in
    let down = extent_at scene.heights.now c.args.place in
    plain_said
    (λ (child : ChildAxis). (children : List ChildAxis)
    → spans_by c.args.row.now (child ∷ children) ≡ c.next_of.result ∷ spans_by c.next_of.new.self children)
    scene.axis c.args.rule scene.nodes.now scene.widths.now scene.heights.now c.args.place
    (sym c.is_plain.ensures ∙ c.if-is_plain.true)
    (λ node children. c.next_of.ensures.next _ children (c.plain_at-part.ensures node)
    (plain_before scene.axis node across down) (plain_after scene.axis node across down))
