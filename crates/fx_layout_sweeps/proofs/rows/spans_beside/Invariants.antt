use Rattle.std.proofs.Common.{◌≡◌, ◌++◌, List, ℕ, drop, map}
use Rattle.fx_panes_parts.specs.Axes.{along}
use Rattle.fx_boxes.specs.Rows.{beside_spans, clamped}
use Rattle.fx_layout_sweeps.specs.Nodes.{seen}
use Rattle.fx_layout_sweeps.proofs.rows.spans_beside.Given as goal

abbrev pub invariant-loop-place : goal.invariant-loop-place
invariant-loop-place l =
    let row = λ (places : List ℕ). along l.scene.axis
    (seen l.rule l.scene.nodes.now l.scene.widths.now l.scene.heights.now places) in
    l.spans.items ++ map clamped (beside_spans l.pane (row (drop l.place-index l.places)) l.held)
    ≡ map clamped (beside_spans l.pane (row l.places) l.held)
