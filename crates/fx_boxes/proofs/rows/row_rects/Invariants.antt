use Rattle.std.proofs.Common.{◌≡◌, ◌+◌, ◌*◌, ◌^◌, ◌++◌, ◌≤◌, drop}
use Rattle.std.specs.Simd.Lanes.{zip2}
use Rattle.fx_panes_parts.specs.Axes.{along, pane_axis}
use Rattle.fx_boxes.specs.Rows.{beside_spans, other, rect_along, row_spans, spans_by}
use Rattle.fx_boxes.proofs.rows.row_rects.Given as goal

-- the rectangles so far, and those of the children that are left, are the whole
abbrev pub invariant-loop-child : goal.invariant-loop-child
invariant-loop-child l =
    record {
      spacing : l.row.spacing ≤ 100000;
      at : l.row.at ≤ 2 ^ 18 + 2 ^ 35 * l.child-index;
      same : l.rects.items ++ zip2 (rect_along l.axis) (spans_by l.row (along l.axis (drop l.child-index l.children)))
          (beside_spans (pane_axis (other l.axis) l.pane) (along (other l.axis) (drop l.child-index l.children)) l.length_beside)
          ≡ zip2 (rect_along l.axis) (row_spans (pane_axis l.axis l.pane) (along l.axis l.children) l.length_along)
          (beside_spans (pane_axis (other l.axis) l.pane) (along (other l.axis) l.children) l.length_beside);
    }
