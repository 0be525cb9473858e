use Rattle.std.proofs.Common.{◌≡◌, ◌+◌, ◌*◌, ◌^◌, ◌++◌, ◌≤◌, List, ℕ, drop, map}
use Rattle.fx_panes_parts.specs.Axes.{along}
use Rattle.fx_boxes.specs.Rows.{clamped, row_spans, spans_by}
use Rattle.fx_layout_sweeps.specs.Nodes.{seen}
use Rattle.fx_layout_sweeps.proofs.rows.spans_along.Given as goal

-- the spans so far, and those of the children that are left, are the whole
abbrev pub invariant-loop-place : goal.invariant-loop-place
invariant-loop-place l =
    let row = λ (places : List ℕ). along l.scene.axis
    (seen l.rule l.scene.nodes.now l.scene.widths.now l.scene.heights.now places) in
    record {
      spacing : l.row.spacing ≤ 100000;
      at : l.row.at ≤ 2 ^ 18 + 2 ^ 35 * l.place-index;
      same : l.spans.items ++ map clamped (spans_by l.row (row (drop l.place-index l.places)))
          ≡ map clamped (row_spans l.pane (row l.places) l.held);
    }
