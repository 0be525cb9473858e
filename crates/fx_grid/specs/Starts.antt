-- Where the tracks of a grid begin, so that a child looks at two places and adds up no lengths.
-- Cited by src/starts.rt and by the children's places; what they are for is grid_span.
use Rattle.std.specs.Prelude.{◌≡◌, ℕ, ◌+◌, ◌-◌, ◌^◌, ◌<◌, ◌≤◌, All, List, [], ◌∷◌, ◌++◌, length, slice_index, unwrap_or}
use Rattle.fx_base.specs.declared.facts.ChildSize.{ChildSize}
use Rattle.fx_base.specs.declared.facts.PaneFacts.{PaneFacts}
use Rattle.fx_base.specs.declared.facts.Track.{Track}
use Rattle.fx_panes_parts.specs.declared.axes.Axis.{Axis}
use Rattle.fx_panes_parts.specs.declared.axes.ChildAxis.{ChildAxis}
use Rattle.fx_panes_parts.specs.declared.axes.PaneAxis.{PaneAxis}
use Rattle.fx_panes_parts.specs.declared.axes.Span.{Span}
use Rattle.fx_panes_parts.specs.declared.parts.Part.{Part}
use Rattle.fx_grid.specs.declared.grid.Side.{Side}
use Rattle.fx_panes_parts.specs.Axes.{along, child_axis, content, gaps, pane_axis}
use Rattle.fx_panes_parts.specs.Sizes.{filled_length, in_area}
use Rattle.fx_panes_parts.specs.Tracks.{tracked}
use Rattle.fx_panes.specs.Rules.{inner}
use Rattle.fx_grid.specs.Grid.{grid_start, side_of}
use Rattle.fx_grid.specs.Tracks.{given_on, track_at, track_count, tracks_of}

-- where each length begins, one behind the other with gaps between
abbrev pub starts_from : ℕ → ℕ → List ℕ → List ℕ
starts_from start gap [] = []
starts_from start gap (n ∷ lengths) = start ∷ starts_from (start + (n + gap)) gap lengths

-- where these tracks begin in a pane of this length, and a place behind the last
unfoldable pub starts_of : PaneAxis → ℕ → List Part → List ℕ
starts_of pane n tracks =
    let lengths = tracked (content pane n - gaps pane.gap (length tracks)) tracks in
    starts_from (grid_start pane n lengths) pane.gap (lengths ++ (0 ∷ []))

-- the same of the tracks of a grid
abbrev pub grid_starts : Axis → PaneFacts → List ChildAxis → ℕ → List ℕ
grid_starts axis pane children n =
    starts_of (pane_axis axis pane) n (tracks_of (pane_axis axis pane).gap (given_on axis pane) children)

-- a child in tracks that begin there: its area ends a gap before the track behind it
unfoldable pub span_at : Axis → List Track → ℕ → List ℕ → ChildAxis → Span
span_at axis given gap starts child =
    let start = slice_index starts child.index in
    let area = slice_index starts (child.index + child.span) - start - gap in
    let how = unwrap_or child.align (unwrap_or (track_at given child.index).align (side_of axis)) in
    in_area how start area child (filled_length child.fill child.extent (inner child area))

-- these are near places, and each child ends at one of them
pub record AreStarts (axis : Axis) (starts : List ℕ) (children : List ChildSize) : Type 0 where
  pub near : All (λ start. start < 2 ^ 62) starts
  pub within : All (λ child. (child_axis axis child).index + (child_axis axis child).span < length starts) children

-- so many tracks are in a grid along an axis, and so long may it be
pub record IsSide (axis : Axis) (pane : PaneFacts) (children : List ChildSize) (side : Side) : Type 0 where
  pub length : side.length ≤ 100000
  pub count : side.count ≡ track_count (given_on axis pane) (along axis children)
