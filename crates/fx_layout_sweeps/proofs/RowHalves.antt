-- What a pane that puts its children in a row does along one axis is what its rule says along it.
use Rattle.std.proofs.Common.{◌≡◌, ℕ, List, Some, map, refl, sym, ◌∙◌}
use Rattle.fx_base.specs.declared.facts.ChildSize.{ChildSize}
use Rattle.fx_base.specs.declared.facts.PaneFacts.{PaneFacts}
use Rattle.fx_boxes.specs.declared.sides.RowSide.{RowSide}
use Rattle.fx_boxes.specs.Rows.{beside_spans, clamped, hbox_sizes, row_spans, side_extent, side_spans, vbox_sizes}
use Rattle.fx_boxes.proofs.RowLemmas.{one_each_beside, one_each_row}
use Rattle.fx_panes_parts.specs.declared.axes.Axis.{Axis}
use Rattle.fx_panes_parts.specs.declared.axes.ChildAxis.{ChildAxis}
use Rattle.fx_panes_parts.specs.declared.axes.Extent.{Extent}
use Rattle.fx_panes_parts.specs.declared.axes.PaneAxis.{PaneAxis}
use Rattle.fx_panes_parts.specs.declared.axes.Span.{Span}
use Rattle.fx_panes_parts.specs.Axes.{along, pane_axis}
use Rattle.fx_layout_parts.specs.declared.rules.Rule.{Rule}
use Rattle.fx_layout_parts.specs.Rules.{in_pixels, rects_by, row_side}
use Rattle.fx_layout_parts.proofs.RowSides.{by_row, placed_across, placed_down}
use Rattle.fx_layout_sweeps.specs.Sweeps.{IsMeasured, held_length, spans_along}

-- the lengths along an axis are a node's
abbrev pub IsRowMeasured : Rule → Axis → RowSide → Type 0
IsRowMeasured r axis side = (facts : PaneFacts) (children : List ChildSize) (width : ℕ) (lengths : Extent)
    → lengths ≡ in_pixels (side_extent side (pane_axis axis facts) (along axis children))
    → IsMeasured axis (record { rule = r; facts = facts }) children width lengths

pub row_measured : (r : Rule) (axis : Axis) (side : RowSide) → Some side ≡ row_side r axis → IsRowMeasured r axis side
row_measured r axis side is_row =
    by_row IsRowMeasured
    (λ facts children width lengths is. (hbox_sizes facts children, 0, refl, is))
    (λ facts children width lengths is. (hbox_sizes facts children, refl, is))
    (λ facts children width lengths is. (vbox_sizes facts children, 0, refl, is))
    (λ facts children width lengths is. (vbox_sizes facts children, refl, is))
    r axis side is_row

-- and the spans are those of its children
abbrev pub IsRowPlaced : Rule → Axis → RowSide → Type 0
IsRowPlaced r axis side = (facts : PaneFacts) (children : List ChildSize) (room : ℕ) (spans : List Span)
    → spans ≡ map clamped (side_spans side (pane_axis axis facts) (along axis children) (held_length room))
    → spans ≡ spans_along axis (record { rule = r; facts = facts }) children room

pub row_placed : (r : Rule) (axis : Axis) (side : RowSide) → Some side ≡ row_side r axis → IsRowPlaced r axis side
unfolding rects_by
row_placed r axis side is_row =
    by_row IsRowPlaced
    (λ facts children room spans is.
    is ∙ sym (placed_across row_spans beside_spans one_each_row one_each_beside facts children (held_length room) 0))
    (λ facts children room spans is.
    is ∙ sym (placed_down row_spans beside_spans one_each_row one_each_beside facts children 0 (held_length room)))
    (λ facts children room spans is.
    is ∙ sym (placed_across beside_spans row_spans one_each_beside one_each_row facts children (held_length room) 0))
    (λ facts children room spans is.
    is ∙ sym (placed_down beside_spans row_spans one_each_beside one_each_row facts children 0 (held_length room)))
    r axis side is_row

-- what is told of a pane and of its children along an axis
pub row_lengths_are : (axis : Axis) (side : RowSide) (pane : PaneAxis) (facts : PaneFacts) (axes : List ChildAxis)
    (children : List ChildSize) (lengths made : Extent)
    → pane ≡ pane_axis axis facts → axes ≡ along axis children
    → lengths ≡ side_extent side pane axes → made ≡ in_pixels lengths
    → made ≡ in_pixels (side_extent side (pane_axis axis facts) (along axis children))
row_lengths_are axis side pane facts axes children lengths made is_pane are_axes are_lengths is_made =
    rw (is_made, are_lengths, is_pane, are_axes) refl

pub row_spans_are : (axis : Axis) (side : RowSide) (pane : PaneAxis) (facts : PaneFacts) (axes : List ChildAxis)
    (children : List ChildSize) (room held : ℕ) (spans : List Span)
    → pane ≡ pane_axis axis facts → axes ≡ along axis children → held ≡ held_length room
    → spans ≡ map clamped (side_spans side pane axes held)
    → spans ≡ map clamped (side_spans side (pane_axis axis facts) (along axis children) (held_length room))
row_spans_are axis side pane facts axes children room held spans is_pane are_axes is_held are_spans =
    rw (are_spans, is_pane, are_axes, is_held) refl
