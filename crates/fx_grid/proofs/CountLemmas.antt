-- No child covers a track behind the last one.
use Rattle.std.proofs.Common.{◌≡◌, ℕ, ◌+◌, List, [], ◌∷◌, length, map, All, arith}
use Rattle.std.proofs.lemmas.List.FromFn.{length-map-range_with_len}
use Rattle.std.proofs.lemmas.List.Elements.{All-cons, All-nil, All-weaker}
use Rattle.fx_base.specs.declared.facts.ChildSize.{ChildSize}
use Rattle.fx_base.specs.declared.facts.Track.{Track}
use Rattle.fx_panes_parts.specs.declared.axes.Axis.{Axis}
use Rattle.fx_panes_parts.specs.declared.axes.ChildAxis.{ChildAxis}
use Rattle.fx_panes.specs.declared.rules.Bound.{Bound}
use Rattle.fx_panes_parts.specs.Axes.{along}
use Rattle.fx_panes_parts.specs.Parts.{greatest_of}
use Rattle.fx_grid.specs.Tracks.{IsWithin, length_alone, lengths_alone, track_count}

-- where the children end along an axis at most
abbrev ends : Axis → List ChildSize → ℕ
ends axis children = greatest_of (map (λ (child : ChildAxis). child.index + child.span) (along axis children))

within_ends : (axis : Axis) (children : List ChildSize) → All (IsWithin axis (ends axis children)) children
within_ends axis [] = All-nil (IsWithin axis 0)
within_ends axis (child ∷ children) =
    All-cons (IsWithin axis (ends axis (child ∷ children))) child children (omega arith)
    (All-weaker (IsWithin axis (ends axis children)) (IsWithin axis (ends axis (child ∷ children)))
    (λ other within. omega (arith, within)) children (within_ends axis children))

pub within_count : (axis : Axis) (given : List Track) (children : List ChildSize) (count : ℕ)
    → count ≡ track_count given (along axis children) → All (IsWithin axis count) children
within_count axis given children count count_is =
    All-weaker (IsWithin axis (ends axis children)) (IsWithin axis count)
    (λ child within. omega (arith, within, count_is)) children (within_ends axis children)

-- there is a length for each track
pub length-lengths_alone : (bound : Bound) (given : List Track) (children : List ChildAxis)
    → length (lengths_alone bound given children) ≡ track_count given children
length-lengths_alone bound given children =
    length-map-range_with_len (length_alone bound given children) 0 (track_count given children)
