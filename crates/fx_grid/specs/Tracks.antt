-- The columns or the rows of a grid, by their constraints and by the children along one axis.
-- Cited by src/tracks.rt and by the grid.
use Rattle.std.specs.Prelude.{◌≡◌, ◌<◌, ℕ, ℤ, pos, negsuc, Bool, ◌+◌, ◌-◌, ◌^◌, ◌≤◌, ◌==◌, ◌&&◌, ◌++◌, nat_le, nat_lt, if◌then◌else◌, List, fold, length, map, max, min, replicate, sum, take, drop, slice_index, slice_index_or, None, unwrap_or}
use Rattle.std.specs.List.{range_with_len}
use Rattle.std.specs.Simd.Lanes.{zip2}
use Rattle.fx_base.specs.declared.facts.ChildSize.{ChildSize}
use Rattle.fx_base.specs.declared.facts.PaneFacts.{PaneFacts}
use Rattle.fx_base.specs.declared.facts.Track.{Track}
use Rattle.fx_panes_parts.specs.declared.axes.Axis.{Axis}
use Rattle.fx_panes_parts.specs.declared.axes.Axis.TheVariants.{Across, Down}
use Rattle.fx_panes_parts.specs.declared.axes.ChildAxis.{ChildAxis}
use Rattle.fx_panes_parts.specs.declared.parts.Part.{Part}
use Rattle.fx_grid.specs.declared.needs.Need.{Need}
use Rattle.fx_panes_parts.specs.Axes.{child_axis, gaps}
use Rattle.fx_panes_parts.specs.Lengths.{longest}
use Rattle.fx_panes_parts.specs.Parts.{greatest_of}
use Rattle.fx_panes_parts.specs.Shares.{share_of}
use Rattle.fx_panes_parts.specs.Sizes.{limited}
use Rattle.fx_panes.specs.declared.rules.Bound.{Bound}
use Rattle.fx_panes.specs.declared.rules.Bound.TheVariants.{Minimum, Preferred}
use Rattle.fx_panes.specs.Rules.{outer_by}

-- a track without a constraint: one that computes its lengths and says nothing else
abbrev pub free_track : Track
free_track = record { min = negsuc 0; pref = negsuc 0; max = negsuc 0; grow = None; align = None }

-- the constraints of a pane's columns or rows
abbrev pub given_on : Axis → PaneFacts → List Track
given_on Across pane = pane.columns
given_on Down pane = pane.rows

-- the constraint of a track
abbrev pub track_at : List Track → ℕ → Track
track_at given k = slice_index_or given k free_track

-- as many tracks as there are constraints, and as the children cover
abbrev pub track_count : List Track → List ChildAxis → ℕ
track_count given children = max (length given) (greatest_of (map (λ child. child.index + child.span) children))

-- the child covers this track and no other
abbrev pub is_alone : ℕ → ChildAxis → Bool
is_alone k child = (child.span == 1) && (child.index == k)

-- what a child alone in a track needs there, or 0
unfoldable pub alone : Bound → ℕ → ChildAxis → ℕ
alone bound k child = if is_alone k child then outer_by bound child else 0

-- the priority of growth that a child alone in a track asks for there, or 0
unfoldable pub alone_grow : ℕ → ChildAxis → ℕ
alone_grow k child = if is_alone k child then unwrap_or child.grow 0 else 0

-- what the children that are alone in a track need there: the greatest of their lengths, and of their priorities
abbrev pub need_of : List ChildAxis → ℕ → Need
need_of children k = record {
  least = greatest_of (map (alone Minimum k) children);
  wish = greatest_of (map (alone Preferred k) children);
  grow = greatest_of (map (alone_grow k) children);
}

-- what they need with one child more
unfoldable pub raised : ChildAxis → ℕ → Need → Need
raised child k need = record {
  least = max (alone Minimum k child) need.least;
  wish = max (alone Preferred k child) need.wish;
  grow = max (alone_grow k child) need.grow;
}

-- of no children
abbrev pub no_need : Need
no_need = record { least = 0; wish = 0; grow = 0 }

-- this is what is needed in each track
pub record AreNeeds (count : ℕ) (children : List ChildAxis) (needs : List Need) : Type 0 where
  pub each : length needs ≡ count
  pub needed : (k : ℕ) (other : Need) → k < length needs → slice_index_or needs k other ≡ need_of children k

-- a constraint's preferred length, where it has one
unfoldable pub own_pref : ℤ → ℕ → ℕ
own_pref (pos n) computed = min n longest
own_pref (negsuc n) computed = computed

-- a constraint's minimum: where it has none, the preferred length for -Infinity, which is the least number
unfoldable pub own_min : ℤ → ℕ → ℕ → ℕ
own_min (pos n) pref computed = min n longest
own_min (negsuc n) pref computed = if n == 2 ^ 63 - 1 then pref else computed

-- the length of this kind of a track by its constraint, else by what is needed there
unfoldable pub length_by : Bound → Track → Need → ℕ
length_by Preferred track need = own_pref track.pref need.wish
length_by Minimum track need = own_min track.min (own_pref track.pref need.wish) need.least

-- before any child covers more than one
abbrev pub length_alone : Bound → List Track → List ChildAxis → ℕ → ℕ
length_alone bound given children k = length_by bound (track_at given k) (need_of children k)

abbrev pub lengths_alone : Bound → List Track → List ChildAxis → List ℕ
lengths_alone bound given children =
    map (length_alone bound given children) (range_with_len 0 (track_count given children))

-- lengths to which what they lack is added, shared over them up to the longest length each
unfoldable pub shared_out : ℕ → List ℕ → List ℕ
shared_out need lengths =
    zip2 (λ one more. one + more) lengths (share_of (need - sum lengths) (replicate (length lengths) longest))

-- the tracks that a child covers share out what it needs beside the gaps between them
unfoldable pub widened : Bound → ℕ → List ℕ → ChildAxis → List ℕ
widened bound gap lengths child =
    if nat_lt 1 child.span then
    take child.index lengths
    ++ (shared_out (outer_by bound child - gaps gap child.span) (take child.span (drop child.index lengths))
    ++ drop (child.index + child.span) lengths)
    else lengths

-- the lengths of this kind: the children that cover more than one track come in order
abbrev pub lengths_of : Bound → ℕ → List Track → List ChildAxis → List ℕ
lengths_of bound gap given children = fold (widened bound gap) (lengths_alone bound given children) children

-- a track by its constraint and its lengths, which are clamped: the minimum wins
unfoldable pub part_by : Track → ℕ → ℕ → ℕ → Part
part_by track least wish priority =
    let low = min least longest in
    let pref = min wish longest in
    let high = max (limited track.max pref longest) low in
    record { min = low; pref = max (min pref high) low; max = high; priority = priority }

-- a track by its constraint, its lengths and what is needed there, which says its priority where the constraint doesn't
unfoldable pub track_by : Track → Need → ℕ → ℕ → Part
track_by track need least wish = part_by track least wish (unwrap_or track.grow need.grow)

abbrev pub track_of : List Track → List ChildAxis → List ℕ → List ℕ → ℕ → Part
track_of given children leasts wishes k =
    track_by (track_at given k) (need_of children k) (slice_index leasts k) (slice_index wishes k)

-- a length, and a track, by a list of what is needed
abbrev pub length_at_place : Bound → List Track → List Need → ℕ → ℕ
length_at_place bound given needs k = length_by bound (track_at given k) (slice_index_or needs k no_need)

abbrev pub track_at_place : List Track → List Need → List ℕ → List ℕ → ℕ → Part
track_at_place given needs leasts wishes k =
    track_by (track_at given k) (slice_index_or needs k no_need) (slice_index leasts k) (slice_index wishes k)

-- all tracks, as the track rule takes them
abbrev pub tracks_of : ℕ → List Track → List ChildAxis → List Part
tracks_of gap given children =
    map (track_of given children (lengths_of Minimum gap given children) (lengths_of Preferred gap given children))
    (range_with_len 0 (track_count given children))

-- along an axis each child stands within the tracks that a grid may have
pub record IsCell (axis : Axis) (child : ChildSize) : Type 0 where
  pub index : (child_axis axis child).index ≤ 255
  pub span : (child_axis axis child).span ≤ 64

-- the test of it
abbrev pub is_cell : Axis → ChildSize → Bool
is_cell axis child = nat_le (child_axis axis child).index 255 && nat_le (child_axis axis child).span 64

-- there are so many tracks, and the child covers none behind them
abbrev pub IsWithin : Axis → ℕ → ChildSize → Type 0
IsWithin axis count child = (child_axis axis child).index + (child_axis axis child).span ≤ count
