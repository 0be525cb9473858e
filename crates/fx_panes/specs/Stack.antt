-- A pane in whose content every child stands by itself: JavaFX 21 API, javafx.scene.layout.StackPane.
-- One rule for both axes. Cited by src/stack.rt.
use Rattle.std.specs.Prelude.{ℕ, ◌+◌, List, map, unwrap_or}
use Rattle.fx_base.specs.declared.facts.ChildSize.{ChildSize}
use Rattle.fx_base.specs.declared.facts.PaneFacts.{PaneFacts}
use Rattle.fx_base.specs.declared.facts.Sizes.{Sizes}
use Rattle.fx_base.specs.declared.geometry.Rect.{Rect}
use Rattle.fx_panes_parts.specs.declared.axes.ChildAxis.{ChildAxis}
use Rattle.fx_panes_parts.specs.declared.axes.Extent.{Extent}
use Rattle.fx_panes_parts.specs.declared.axes.PaneAxis.{PaneAxis}
use Rattle.fx_panes_parts.specs.declared.axes.Span.{Span}
use Rattle.fx_panes_parts.specs.Axes.{content, insets}
use Rattle.fx_panes_parts.specs.Panes.{measured, placed}
use Rattle.fx_panes_parts.specs.Parts.{greatest_of, part_of}
use Rattle.fx_panes_parts.specs.Sizes.{held, in_area, pane_extent}
use Rattle.fx_panes.specs.Rules.{inner}

-- the insets and the greatest child with its margins
unfoldable pub stack_extent : PaneAxis → List ChildAxis → Extent
stack_extent pane children = pane_extent pane.own
    (insets pane + greatest_of (map (λ part. part.min) (map part_of children)))
    (insets pane + greatest_of (map (λ part. part.pref) (map part_of children)))

-- a child fills the content, and where it can't it is aligned as it says, or else as the pane says
unfoldable pub stack_span : PaneAxis → ℕ → ChildAxis → Span
stack_span pane n child =
    in_area (unwrap_or child.alignment pane.alignment) pane.before (content pane n) child
    (held child.extent (inner child (content pane n)))

abbrev pub stack_spans : PaneAxis → List ChildAxis → ℕ → List Span
stack_spans pane children n = map (stack_span pane n) children

abbrev pub stack_sizes : PaneFacts → List ChildSize → Sizes
stack_sizes = measured stack_extent stack_extent

abbrev pub stack_rects : PaneFacts → List ChildSize → ℕ → ℕ → List Rect
stack_rects = placed stack_spans stack_spans
