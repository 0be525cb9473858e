-- A pane whose children keep their distance to an end of the content, to both or to none: JavaFX 21 API,
-- javafx.scene.layout.AnchorPane. One rule for both axes. Cited by src/anchor.rt.
use Rattle.std.specs.Prelude.{ℕ, ℤ, pos, ◌+◌, ◌+ℤ◌, ◌-ℤ◌, List, map, max, Option, Some, None}
use Rattle.fx_base.specs.declared.facts.ChildSize.{ChildSize}
use Rattle.fx_base.specs.declared.facts.PaneFacts.{PaneFacts}
use Rattle.fx_base.specs.declared.facts.Sizes.{Sizes}
use Rattle.fx_base.specs.declared.geometry.Rect.{Rect}
use Rattle.fx_panes_parts.specs.declared.axes.ChildAxis.{ChildAxis}
use Rattle.fx_panes_parts.specs.declared.axes.Extent.{Extent}
use Rattle.fx_panes_parts.specs.declared.axes.PaneAxis.{PaneAxis}
use Rattle.fx_panes_parts.specs.declared.axes.Span.{Span}
use Rattle.fx_panes_parts.specs.Axes.{content, insets}
use Rattle.fx_panes_parts.specs.Lengths.{end_of, length_of, place_of}
use Rattle.fx_panes_parts.specs.Panes.{measured, placed}
use Rattle.fx_panes_parts.specs.Parts.{greatest_of}
use Rattle.fx_panes_parts.specs.Sizes.{held}
use Rattle.fx_panes.specs.declared.rules.Bound.{Bound}
use Rattle.fx_panes.specs.Rules.{extent_by, length_by}

-- how long a pane is that holds a child of a length with its anchors and the insets, or without anchors at its place
unfoldable pub reach_for : Option ℤ → Option ℤ → ℤ → ℕ → ℕ → ℕ
reach_for (Some low) (Some high) layout insets length = length_of (pos (insets + length) +ℤ (low +ℤ high))
reach_for (Some low) None layout insets length = length_of (pos (insets + length) +ℤ low)
reach_for None (Some high) layout insets length = length_of (pos (insets + length) +ℤ high)
reach_for None None layout insets length = end_of layout length

-- only between two anchors a child becomes shorter than its preferred length
unfoldable pub needed : Option ℤ → Option ℤ → Bound → ChildAxis → ℕ
needed (Some low) (Some high) bound child = length_by bound child
needed low high bound child = child.extent.pref

abbrev pub reach_of : Bound → PaneAxis → ChildAxis → ℕ
reach_of bound pane child =
    reach_for child.low child.high child.layout (insets pane) (needed child.low child.high bound child)

-- the pane holds its insets and all of its children
abbrev pub anchor_computed : Bound → PaneAxis → List ChildAxis → ℕ
anchor_computed bound pane children = max (insets pane) (greatest_of (map (reach_of bound pane) children))

unfoldable pub anchor_extent : PaneAxis → List ChildAxis → Extent
anchor_extent pane children = extent_by anchor_computed pane children

-- between two anchors a child fills what they leave of the content; else it has its preferred length
unfoldable pub anchored : Option ℤ → Option ℤ → PaneAxis → ℕ → ChildAxis → Span
anchored (Some low) (Some high) pane space child = record {
  start = place_of (pos pane.before +ℤ low);
  length = held child.extent (length_of (pos space -ℤ (low +ℤ high)));
}
anchored (Some low) None pane space child = record {
  start = place_of (pos pane.before +ℤ low);
  length = child.extent.pref;
}
anchored None (Some high) pane space child = record {
  start = place_of (pos (pane.before + space) -ℤ (pos child.extent.pref +ℤ high));
  length = child.extent.pref;
}
anchored None None pane space child = record { start = place_of child.layout; length = child.extent.pref }

abbrev pub anchor_span : PaneAxis → ℕ → ChildAxis → Span
anchor_span pane n child = anchored child.low child.high pane (content pane n) child

abbrev pub anchor_spans : PaneAxis → List ChildAxis → ℕ → List Span
anchor_spans pane children n = map (anchor_span pane n) children

abbrev pub anchor_sizes : PaneFacts → List ChildSize → Sizes
anchor_sizes = measured anchor_extent anchor_extent

abbrev pub anchor_rects : PaneFacts → List ChildSize → ℕ → ℕ → List Rect
anchor_rects = placed anchor_spans anchor_spans
