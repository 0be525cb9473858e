-- Grids by what was worked out before, and what they are across.
use Rattle.std.proofs.Common.{◌≡◌, ℕ, ℤ, ◌+◌, List, [], ◌∷◌, length, map, sum_by, refl, sym, ◌∙◌, ap, arith}
use Rattle.std.specs.Simd.Lanes.{zip2}
use Rattle.std.proofs.lemmas.List.{length-map}
use Rattle.fx_base.specs.declared.facts.ChildSize.{ChildSize}
use Rattle.fx_base.specs.declared.facts.PaneFacts.{PaneFacts}
use Rattle.fx_base.specs.declared.facts.Track.{Track}
use Rattle.fx_panes_parts.specs.declared.axes.Axis.{Axis}
use Rattle.fx_panes_parts.specs.declared.axes.Axis.TheVariants.{Across, Down}
use Rattle.fx_panes_parts.specs.declared.axes.ChildAxis.{ChildAxis}
use Rattle.fx_panes_parts.specs.declared.axes.Extent.{Extent}
use Rattle.fx_panes_parts.specs.declared.axes.PaneAxis.{PaneAxis}
use Rattle.fx_panes_parts.specs.declared.axes.Span.{Span}
use Rattle.fx_panes_parts.specs.declared.parts.Part.{Part}
use Rattle.fx_panes_parts.specs.Axes.{along, child_axis, gaps, insets, pane_axis, rect_of}
use Rattle.fx_panes_parts.specs.Lengths.{pixels}
use Rattle.fx_panes_parts.specs.Panes.{across_of}
use Rattle.fx_panes_parts.specs.Sizes.{pane_extent}
use Rattle.fx_panes_parts.proofs.PaneLemmas.{OneEach}
use Rattle.fx_grid.specs.Grid.{IsGridAcrossFirst, grid_extent, grid_lengths, grid_rects, grid_span, grid_spans, grid_start}
use Rattle.fx_grid.specs.Tracks.{track_count, tracks_of}

-- the extent by what was worked out before
pub extent_is : (given : List Track) (facts pane : PaneAxis) (children : List ChildAxis) (around between count : ℕ)
    (tracks : List Part) (extent : Extent)
    → facts ≡ pane → around ≡ insets facts → between ≡ gaps facts.gap count → count ≡ track_count given children
    → tracks ≡ tracks_of facts.gap given children
    → extent ≡ pane_extent facts.own (around + between + sum_by (λ (part : Part). part.min) tracks)
    (around + between + sum_by (λ (part : Part). part.pref) tracks)
    → extent ≡ grid_extent given pane children
unfolding grid_extent
extent_is given facts pane children around between count tracks extent facts_is around_is between_is count_is tracks_are is =
    rw (is, around_is, between_is, count_is, tracks_are, facts_is) refl

pub one_grid : (axis : Axis) (given : List Track) → OneEach (grid_spans axis given)
one_grid axis given pane children n =
    length-map children
    (grid_span axis given pane (grid_lengths given pane children n) (grid_start pane n (grid_lengths given pane children n)))

-- where a span lies, as a rectangle has it
abbrev place_in : Span → ℤ × ℤ
place_in span = (span.start, pixels span.length)

across_zip : (xs ys : List Span) → length xs ≡ length ys → map across_of (zip2 rect_of xs ys) ≡ map place_in xs
across_zip [] ys same = refl
across_zip (x ∷ xs) [] same = absurd (omega (arith, same))
across_zip (x ∷ xs) (y ∷ ys) same = ap (λ (l : List (ℤ × ℤ)). place_in x ∷ l) (across_zip xs ys (omega (arith, same)))

-- what is across of a grid's rectangles is what its columns give
across_of_grid : (p : PaneFacts) (cs : List ChildSize) (w h : ℕ)
    → map across_of (grid_rects p cs w h) ≡ map place_in (grid_spans Across p.columns (pane_axis Across p) (along Across cs) w)
across_of_grid p cs w h =
    across_zip _ _
    (one_grid Across p.columns (pane_axis Across p) (along Across cs) w
    ∙ (length-map cs (child_axis Across) ∙ (sym (length-map cs (child_axis Down))
    ∙ sym (one_grid Down p.rows (pane_axis Down p) (along Down cs) h))))

pub across_first : IsGridAcrossFirst
across_first =
    record {
      widths = λ p q cs ds same_pane same_columns same_children. rw (same_pane, same_columns, same_children) refl;
      spans = λ p q cs ds same_pane same_columns same_children w h k.
          across_of_grid p cs w h ∙ (rw (same_pane, same_columns, same_children) refl ∙ sym (across_of_grid q ds w k));
    }
