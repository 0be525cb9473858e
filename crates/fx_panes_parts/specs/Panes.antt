-- A pane's sizes and the places of its children, by a rule for each axis that sees nothing of the other axis.
-- Cited by every pane.
use Rattle.std.specs.Prelude.{◌≡◌, ℕ, ℤ, List, map}
use Rattle.std.specs.Simd.Lanes.{zip2}
use Rattle.fx_base.specs.declared.facts.ChildSize.{ChildSize}
use Rattle.fx_base.specs.declared.facts.PaneFacts.{PaneFacts}
use Rattle.fx_base.specs.declared.facts.Sizes.{Sizes}
use Rattle.fx_base.specs.declared.geometry.Rect.{Rect}
use Rattle.fx_panes_parts.specs.declared.axes.Axis.TheVariants.{Across, Down}
use Rattle.fx_panes_parts.specs.declared.axes.ChildAxis.{ChildAxis}
use Rattle.fx_panes_parts.specs.declared.axes.Extent.{Extent}
use Rattle.fx_panes_parts.specs.declared.axes.PaneAxis.{PaneAxis}
use Rattle.fx_panes_parts.specs.declared.axes.Span.{Span}
use Rattle.fx_panes_parts.specs.Axes.{along, joined, pane_axis, rect_of}

-- the sizes of a pane by a rule for its widths and one for its heights
abbrev pub measured : (PaneAxis → List ChildAxis → Extent) → (PaneAxis → List ChildAxis → Extent)
    → PaneFacts → List ChildSize → Sizes
measured widths heights pane children = joined
    (widths (pane_axis Across pane) (along Across children))
    (heights (pane_axis Down pane) (along Down children))

-- the rectangles of its children in a width and a height, by a rule for each axis
abbrev pub placed : (PaneAxis → List ChildAxis → ℕ → List Span) → (PaneAxis → List ChildAxis → ℕ → List Span)
    → PaneFacts → List ChildSize → ℕ → ℕ → List Rect
placed spans_across spans_down pane children w h = zip2 rect_of
    (spans_across (pane_axis Across pane) (along Across children) w)
    (spans_down (pane_axis Down pane) (along Down children) h)

abbrev pub widths_of : Sizes → ℤ × ℤ × ℤ
widths_of sizes = (sizes.min_w, sizes.pref_w, sizes.max_w)

abbrev pub across_of : Rect → ℤ × ℤ
across_of rect = (rect.x, rect.w)

-- The horizontal half of a pane's rule sees nothing vertical: panes and children that are the same across have the same
-- widths, and their children stand at the same places across, whatever the heights are.
pub record IsAcrossFirst (sizes : PaneFacts → List ChildSize → Sizes)
    (rects : PaneFacts → List ChildSize → ℕ → ℕ → List Rect) : Type 0 where
  pub widths : (p q : PaneFacts) (cs ds : List ChildSize) → pane_axis Across p ≡ pane_axis Across q
      → along Across cs ≡ along Across ds → widths_of (sizes p cs) ≡ widths_of (sizes q ds)
  pub spans : (p q : PaneFacts) (cs ds : List ChildSize) → pane_axis Across p ≡ pane_axis Across q
      → along Across cs ≡ along Across ds
      → (w h k : ℕ) → map across_of (rects p cs w h) ≡ map across_of (rects q ds w k)
