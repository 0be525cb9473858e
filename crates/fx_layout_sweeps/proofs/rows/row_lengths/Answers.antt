use Rattle.std.proofs.Common.{◌≤◌, ℕ, List, length, refl, subst, sym}
use Rattle.fx_layout_sweeps.specs.Nodes.{box_at, node_at, places_at, seen}
use Rattle.fx_layout_sweeps.proofs.Asking.{children_few}
use Rattle.fx_layout_sweeps.proofs.RowHalves.{row_lengths_are}
use Rattle.fx_layout_sweeps.proofs.rows.row_lengths.Goals as goal

pub lengths_over-requires-clause-few : goal.lengths_over-requires-clause-few
lengths_over-requires-clause-few c =
    subst (λ (l : List ℕ). length l ≤ 4096) (sym c.children_in-places.ensures.value)
    (children_few c.args.scene.nodes.now c.args.scene.children.now c.args.place c.requires.nodes c.requires.children
    c.requires.place)

pub returns : goal.returns
returns c =
    let scene = c.args.scene in
    let node = box_at scene.nodes.now scene.looks.now c.args.place in
    row_lengths_are scene.axis c.args.side c.pane_in-pane.result node.facts _
    (seen node.rule scene.nodes.now scene.widths.now scene.heights.now (places_at scene.children.now c.args.place))
    _ _ (c.pane_in-pane.ensures.value (node_at scene.nodes.now c.args.place))
    refl (rw (c.rule_at-rule.ensures, c.children_in-places.ensures.value) at c.lengths_over.ensures) c.in_pixels.ensures
