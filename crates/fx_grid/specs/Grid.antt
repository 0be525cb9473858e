-- A pane whose children stand in columns and rows: JavaFX 21 API, javafx.scene.layout.GridPane.
-- Columns and rows are one rule for the two axes. Cited by src/grid.rt.
use Rattle.std.specs.Prelude.{◌≡◌, ◌&&◌, Bool, nat_le, ℕ, ◌+◌, ◌-◌, ◌*◌, ◌≤◌, All, List, length, map, sum, sum_by, take, drop, unwrap_or}
use Rattle.std.specs.List.{list_all}
use Rattle.fx_base.specs.declared.facts.ChildSize.{ChildSize}
use Rattle.fx_base.specs.declared.facts.PaneFacts.{PaneFacts}
use Rattle.fx_base.specs.declared.facts.Sizes.{Sizes}
use Rattle.fx_base.specs.declared.facts.Track.{Track}
use Rattle.fx_base.specs.declared.geometry.Rect.{Rect}
use Rattle.fx_panes_parts.specs.declared.axes.Axis.{Axis}
use Rattle.fx_panes_parts.specs.declared.axes.Axis.TheVariants.{Across, Down}
use Rattle.fx_panes_parts.specs.declared.axes.ChildAxis.{ChildAxis}
use Rattle.fx_panes_parts.specs.declared.axes.Extent.{Extent}
use Rattle.fx_panes_parts.specs.declared.axes.PaneAxis.{PaneAxis}
use Rattle.fx_panes_parts.specs.declared.axes.Span.{Span}
use Rattle.fx_panes_parts.specs.Axes.{along, content, gaps, insets, pane_axis}
use Rattle.fx_panes_parts.specs.Lengths.{aligned}
use Rattle.fx_panes_parts.specs.Panes.{across_of, measured, placed, widths_of}
use Rattle.fx_panes_parts.specs.Sizes.{filled_length, in_area, pane_extent}
use Rattle.fx_panes_parts.specs.Tracks.{tracked}
use Rattle.fx_panes.specs.Rules.{inner}
use Rattle.fx_grid.specs.Tracks.{IsCell, is_cell, track_at, track_count, tracks_of}

-- the insets, the tracks and the gaps between them
unfoldable pub grid_extent : List Track → PaneAxis → List ChildAxis → Extent
grid_extent given pane children =
    let tracks = tracks_of pane.gap given children in
    let rest = insets pane + gaps pane.gap (track_count given children) in
    pane_extent pane.own (rest + sum_by (λ part. part.min) tracks) (rest + sum_by (λ part. part.pref) tracks)

-- the lengths of the tracks in a pane of this length, by the track rule over the content less the gaps
unfoldable pub grid_lengths : List Track → PaneAxis → List ChildAxis → ℕ → List ℕ
grid_lengths given pane children n =
    tracked (content pane n - gaps pane.gap (track_count given children)) (tracks_of pane.gap given children)

-- where tracks of these lengths begin: all together are aligned in the content
unfoldable pub grid_start : PaneAxis → ℕ → List ℕ → ℕ
grid_start pane n lengths =
    pane.before + aligned pane.alignment (sum lengths + gaps pane.gap (length lengths)) (content pane n)

-- where a child is aligned in its tracks that says nothing, and whose track says nothing: left, and in the middle
abbrev pub side_of : Axis → ℕ
side_of Across = 0
side_of Down = 1

-- a child stands in the tracks that it covers with the gaps between, which it fills or not
unfoldable pub grid_span : Axis → List Track → PaneAxis → List ℕ → ℕ → ChildAxis → Span
grid_span axis given pane lengths start child =
    let ahead = sum (take child.index lengths) + pane.gap * child.index in
    let area = sum (take child.span (drop child.index lengths)) + gaps pane.gap child.span in
    let how = unwrap_or child.align (unwrap_or (track_at given child.index).align (side_of axis)) in
    in_area how (start + ahead) area child (filled_length child.fill child.extent (inner child area))

abbrev pub grid_spans : Axis → List Track → PaneAxis → List ChildAxis → ℕ → List Span
grid_spans axis given pane children n =
    let lengths = grid_lengths given pane children n in
    map (grid_span axis given pane lengths (grid_start pane n lengths)) children

abbrev pub grid_sizes : PaneFacts → List ChildSize → Sizes
grid_sizes pane children = measured (grid_extent pane.columns) (grid_extent pane.rows) pane children

abbrev pub grid_rects : PaneFacts → List ChildSize → ℕ → ℕ → List Rect
grid_rects pane children w h =
    placed (grid_spans Across pane.columns) (grid_spans Down pane.rows) pane children w h

-- the numbers of a grid lie in their ranges
pub record IsGrid (pane : PaneFacts) (children : List ChildSize) : Type 0 where
  pub columns : length pane.columns ≤ 256
  pub rows : length pane.rows ≤ 256
  pub across : All (IsCell Across) children
  pub down : All (IsCell Down) children

-- the test of it
unfoldable pub is_grid : PaneFacts → List ChildSize → Bool
is_grid pane children = nat_le (length pane.columns) 256 && nat_le (length pane.rows) 256
    && list_all (is_cell Across) children && list_all (is_cell Down) children

-- Grids that have the same columns and are the same across have the same widths, and their children stand at the
-- same places across, whatever the rows and the heights are.
pub record IsGridAcrossFirst : Type 0 where
  pub widths : (p q : PaneFacts) (cs ds : List ChildSize) → pane_axis Across p ≡ pane_axis Across q
      → p.columns ≡ q.columns → along Across cs ≡ along Across ds
      → widths_of (grid_sizes p cs) ≡ widths_of (grid_sizes q ds)
  pub spans : (p q : PaneFacts) (cs ds : List ChildSize) → pane_axis Across p ≡ pane_axis Across q
      → p.columns ≡ q.columns → along Across cs ≡ along Across ds
      → (w h k : ℕ) → map across_of (grid_rects p cs w h) ≡ map across_of (grid_rects q ds w k)
