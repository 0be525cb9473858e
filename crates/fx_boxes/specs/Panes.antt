-- A pane that leaves its children where they ask to be: JavaFX 21 API, javafx.scene.layout.Pane.
-- Cited by src/pane.rt.
use Rattle.std.specs.Prelude.{ℕ, ◌+◌, List, map, max}
use Rattle.fx_base.specs.declared.facts.ChildSize.{ChildSize}
use Rattle.fx_base.specs.declared.facts.PaneFacts.{PaneFacts}
use Rattle.fx_base.specs.declared.facts.Sizes.{Sizes}
use Rattle.fx_base.specs.declared.geometry.Rect.{Rect}
use Rattle.fx_panes_parts.specs.declared.axes.Axis.TheVariants.{Across, Down}
use Rattle.fx_panes_parts.specs.declared.axes.ChildAxis.{ChildAxis}
use Rattle.fx_panes_parts.specs.declared.axes.Extent.{Extent}
use Rattle.fx_panes_parts.specs.declared.axes.PaneAxis.{PaneAxis}
use Rattle.fx_panes_parts.specs.declared.axes.Span.{Span}
use Rattle.fx_panes_parts.specs.Axes.{child_axis, insets, rect_of}
use Rattle.fx_panes_parts.specs.Lengths.{end_of, place_of}
use Rattle.fx_panes_parts.specs.Panes.{measured, placed}
use Rattle.fx_panes_parts.specs.Parts.{greatest_of}
use Rattle.fx_panes_parts.specs.Sizes.{pane_extent}

-- where the child that reaches farthest ends
abbrev pub farthest_end : List ChildAxis → ℕ
farthest_end children = greatest_of (map (λ child. end_of child.layout child.extent.pref) children)

-- the minimum is the insets; the preferred length reaches the farthest end and the inset behind it
unfoldable pub free_extent : PaneAxis → List ChildAxis → Extent
free_extent pane children =
    pane_extent pane.own (insets pane) (max (insets pane) (farthest_end children + pane.after))

-- a child stands where it asks to be, in its preferred length
unfoldable pub free_span : ChildAxis → Span
free_span child = record { start = place_of child.layout; length = child.extent.pref }

abbrev pub free_rect : ChildSize → Rect
free_rect child = rect_of (free_span (child_axis Across child)) (free_span (child_axis Down child))

abbrev pub free_spans : PaneAxis → List ChildAxis → ℕ → List Span
free_spans pane children length = map free_span children

abbrev pub pane_sizes : PaneFacts → List ChildSize → Sizes
pane_sizes = measured free_extent free_extent

abbrev pub pane_rects : PaneFacts → List ChildSize → ℕ → ℕ → List Rect
pane_rects = placed free_spans free_spans
