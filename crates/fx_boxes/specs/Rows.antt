-- A row of children, and children beside one another in a row: JavaFX 21 API, javafx.scene.layout.HBox and VBox.
-- An HBox is a row across, with its children side by side down; a VBox is the same with the axes exchanged.
-- Cited by src/rows.rt, src/sides.rt, src/hbox.rt and src/vbox.rt.
use Rattle.std.specs.Prelude.{ℕ, ◌+◌, ◌-◌, List, [], ◌∷◌, length, map, sum, sum_by}
use Rattle.fx_base.specs.declared.facts.ChildSize.{ChildSize}
use Rattle.fx_base.specs.declared.facts.PaneFacts.{PaneFacts}
use Rattle.fx_base.specs.declared.facts.Sizes.{Sizes}
use Rattle.fx_base.specs.declared.geometry.Rect.{Rect}
use Rattle.fx_panes_parts.specs.declared.axes.Axis.{Axis}
use Rattle.fx_panes_parts.specs.declared.axes.Axis.TheVariants.{Across, Down}
use Rattle.fx_panes_parts.specs.declared.axes.ChildAxis.{ChildAxis}
use Rattle.fx_panes_parts.specs.declared.axes.Extent.{Extent}
use Rattle.fx_panes_parts.specs.declared.axes.PaneAxis.{PaneAxis}
use Rattle.fx_panes_parts.specs.declared.axes.Span.{Span}
use Rattle.fx_panes_parts.specs.declared.parts.Part.{Part}
use Rattle.fx_panes_parts.specs.Axes.{content, gaps, insets, rect_of}
use Rattle.fx_panes_parts.specs.Lengths.{aligned, length_of, pixels, place_of}
use Rattle.fx_panes_parts.specs.Panes.{measured, placed}
use Rattle.fx_panes_parts.specs.Parts.{greatest_of, part_of}
use Rattle.fx_panes_parts.specs.Sizes.{filled_length, in_area, pane_extent}
use Rattle.fx_panes_parts.specs.Tracks.{lengths_by, tracked}
use Rattle.fx_boxes.specs.declared.rows.Row.{Row}
use Rattle.fx_boxes.specs.declared.sides.RowSide.{RowSide}
use Rattle.fx_boxes.specs.declared.sides.RowSide.TheVariants.{Along, Beside}

-- the children with their margins
abbrev pub parts_of : List ChildAxis → List Part
parts_of children = map part_of children

-- what a row needs beside its children: the insets, and the spacing between them
abbrev pub row_rest : PaneAxis → List ChildAxis → ℕ
row_rest pane children = insets pane + gaps pane.spacing (length children)

-- along the row: the insets, the spacing and all children
unfoldable pub row_extent : PaneAxis → List ChildAxis → Extent
row_extent pane children = pane_extent pane.own
    (row_rest pane children + sum_by (λ part. part.min) (parts_of children))
    (row_rest pane children + sum_by (λ part. part.pref) (parts_of children))

-- beside it: the insets and the greatest child
unfoldable pub beside_extent : PaneAxis → List ChildAxis → Extent
beside_extent pane children = pane_extent pane.own
    (insets pane + greatest_of (map (λ part. part.min) (parts_of children)))
    (insets pane + greatest_of (map (λ part. part.pref) (parts_of children)))

-- a child that begins at a place and has this length, both with its margins
abbrev pub span_at : ℕ → ChildAxis → ℕ → Span
span_at at child length = record {
  start = pixels (at + child.before);
  length = length - (child.before + child.after);
}

-- children of these lengths with their margins, one behind the other with spacing between them, from a place on
abbrev pub spans_from : ℕ → ℕ → List ChildAxis → List ℕ → List Span
spans_from spacing at [] lengths = []
spans_from spacing at (child ∷ children) [] = []
spans_from spacing at (child ∷ children) (length ∷ lengths) =
    span_at at child length ∷ spans_from spacing (at + length + spacing) children lengths

-- along the row: lengths by the track rule over the content less the spacing, and the whole aligned in the content
unfoldable pub row_spans : PaneAxis → List ChildAxis → ℕ → List Span
row_spans pane children n =
    let between = gaps pane.spacing (length children) in
    let lengths = tracked (content pane n - between) (parts_of children) in
    spans_from pane.spacing
    (pane.before + aligned pane.alignment (sum lengths + between) (content pane n)) children lengths

-- beside it: each child by itself fills the content or not, and is aligned in it
unfoldable pub beside_span : PaneAxis → ℕ → ChildAxis → Span
beside_span pane n child =
    in_area pane.alignment pane.before (content pane n) child
    (filled_length pane.fill child.extent (content pane n - (child.before + child.after)))

abbrev pub beside_spans : PaneAxis → List ChildAxis → ℕ → List Span
beside_spans pane children n = map (beside_span pane n) children

abbrev pub hbox_sizes : PaneFacts → List ChildSize → Sizes
hbox_sizes = measured row_extent beside_extent

abbrev pub hbox_rects : PaneFacts → List ChildSize → ℕ → ℕ → List Rect
hbox_rects = placed row_spans beside_spans

abbrev pub vbox_sizes : PaneFacts → List ChildSize → Sizes
vbox_sizes = measured beside_extent row_extent

abbrev pub vbox_rects : PaneFacts → List ChildSize → ℕ → ℕ → List Rect
vbox_rects = placed beside_spans row_spans

-- the spans of children by what a row has come to
unfoldable pub spans_by : Row → List ChildAxis → List Span
spans_by row children = spans_from row.spacing row.at children (lengths_by row.plan (parts_of children))

-- the rectangle of a child of a row, by the row's axis
abbrev pub rect_along : Axis → Span → Span → Rect
rect_along Across along beside = rect_of along beside
rect_along Down along beside = rect_of beside along

-- the axis beside this one
abbrev pub other : Axis → Axis
other Across = Down
other Down = Across

-- what a pane does with a row of children along one axis, by what the axis is to the row
abbrev pub side_extent : RowSide → PaneAxis → List ChildAxis → Extent
side_extent Along pane children = row_extent pane children
side_extent Beside pane children = beside_extent pane children

abbrev pub side_spans : RowSide → PaneAxis → List ChildAxis → ℕ → List Span
side_spans Along pane children n = row_spans pane children n
side_spans Beside pane children n = beside_spans pane children n

-- a span with its numbers as a rectangle has them
abbrev pub clamped : Span → Span
clamped span = record { start = place_of span.start; length = length_of (pixels span.length) }
