use Rattle.std.proofs.Common.{◌≤◌, ℕ, List, length, refl, subst, sym}
use Rattle.std.proofs.lemmas.Result.{IfOk-weaker}
use Rattle.fx_layout_sweeps.specs.Nodes.{box_at, node_at, places_at, seen}
use Rattle.fx_layout_sweeps.proofs.Asking.{children_few}
use Rattle.fx_layout_sweeps.proofs.RowHalves.{row_spans_are}
use Rattle.fx_layout_sweeps.proofs.rows.row_spans.Goals as goal

pub spans_over-requires-clause-few : goal.spans_over-requires-clause-few
spans_over-requires-clause-few c =
    subst (λ (l : List ℕ). length l ≤ 4096) (sym c.children_in-places.ensures.value)
    (children_few c.args.scene.nodes.now c.args.scene.children.now c.args.place c.requires.nodes c.requires.children
    c.requires.place)

pub returns : goal.returns
returns c =
    let scene = c.args.scene in
    let node = box_at scene.nodes.now scene.looks.now c.args.place in
    IfOk-weaker c.spans_over.result _ _
    (λ spans same. row_spans_are scene.axis c.args.side c.pane_in-pane.result node.facts _
    (seen node.rule scene.nodes.now scene.widths.now scene.heights.now (places_at scene.children.now c.args.place))
    c.args.room c.held_length.result spans.items (c.pane_in-pane.ensures.value (node_at scene.nodes.now c.args.place))
    refl c.held_length.ensures.value same)
    (rw (c.rule_at-rule.ensures, c.children_in-places.ensures.value) at c.spans_over.ensures)
