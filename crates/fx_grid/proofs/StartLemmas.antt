-- A child's span by where its tracks begin is its span by their lengths.
use Rattle.std.proofs.Common.{◌≡◌, ℕ, zero, suc, ◌+◌, ◌-◌, ◌*◌, ◌<◌, ◌≤◌, All, List, [], ◌∷◌, ◌++◌, length, map, drop, drop-cons, get_or, set, take, sum, refl, ◌∙◌, ap, arith, Result, Ok, Err, Vec, Global}
use Rattle.std.specs.Prelude.{IfOk}
use Rattle.std.specs.Simd.Lanes.{zip2}
use Rattle.std.proofs.Math.Nat.{mul-add, mul-suc}
use Rattle.std.proofs.Math.Seq.{take-add}
use Rattle.std.proofs.lemmas.List.{drop_all, set_at, take_at}
use Rattle.std.proofs.lemmas.List.Elements.{All-head, All-tail, All-weaker}
use Rattle.std.proofs.lemmas.List.Sums.{sum_by-append, sum_by-cons}
use Rattle.fx_base.specs.declared.facts.ChildSize.{ChildSize}
use Rattle.fx_base.specs.declared.facts.PaneFacts.{PaneFacts}
use Rattle.fx_base.specs.declared.facts.Track.{Track}
use Rattle.fx_base.specs.declared.geometry.Rect.{Rect}
use Rattle.fx_panes_parts.specs.declared.axes.Axis.{Axis}
use Rattle.fx_panes_parts.specs.declared.axes.Axis.TheVariants.{Across, Down}
use Rattle.fx_panes_parts.specs.declared.axes.ChildAxis.{ChildAxis}
use Rattle.fx_panes_parts.specs.declared.axes.PaneAxis.{PaneAxis}
use Rattle.fx_panes_parts.specs.declared.axes.Span.{Span}
use Rattle.fx_panes_parts.specs.declared.parts.Part.{Part}
use Rattle.fx_panes_parts.specs.Axes.{along, child_axis, content, gaps, pane_axis, rect_of}
use Rattle.fx_panes_parts.specs.Tracks.{tracked}
use Rattle.fx_panes_parts.proofs.TrackLemmas.{length-tracked}
use Rattle.fx_grid.specs.Grid.{grid_lengths, grid_rects, grid_span, grid_spans, grid_start}
use Rattle.fx_grid.specs.Starts.{grid_starts, span_at, starts_from, starts_of}
use Rattle.fx_grid.specs.Tracks.{IsWithin, given_on, track_count, tracks_of}
use Rattle.fx_grid.proofs.CountLemmas.{within_count}
use Rattle.fx_grid.proofs.NeedLemmas.{length-tracks_of}

-- a track begins behind those in front of it, each with a gap
start_at : (start gap : ℕ) (lengths : List ℕ) (k : ℕ) → k ≤ length lengths
    → get_or (starts_from start gap (lengths ++ (0 ∷ []))) k 0 ≡ start + (sum (take k lengths) + gap * k)
start_at start gap [] zero within = omega arith
start_at start gap [] (suc k) within = absurd (omega (arith, within))
start_at start gap (n ∷ lengths) zero within = omega arith
start_at start gap (n ∷ lengths) (suc k) within =
    start_at (start + (n + gap)) gap lengths k (omega (arith, within))
    ∙ omega (arith, mul-suc gap k, sum_by-cons (λ (x : ℕ). x) n (take k lengths))

-- from the first of some tracks to the one behind them there are their lengths, and a gap for each
area_is : (gap start a b i s first last : ℕ) → (s ≡ 0 → b ≡ 0)
    → first ≡ start + (a + gap * i) → last ≡ start + (a + b + gap * (i + s)) → last - first - gap ≡ b + gaps gap s
area_is gap start a b i zero first last none first_is last_is =
    omega (arith, none refl, first_is, last_is, mul-add gap i 0)
area_is gap start a b i (suc s) first last none first_is last_is =
    let one : suc s - 1 ≡ s = omega arith in
    let between : gap * (suc s - 1) ≡ gap * s = ap (λ (n : ℕ). gap * n) one in
    omega (arith, first_is, last_is, between, mul-add gap i (suc s), mul-suc gap s)

span_is : (axis : Axis) (given : List Track) (pane : PaneAxis) (lengths : List ℕ) (start : ℕ) (child : ChildAxis)
    → child.index + child.span ≤ length lengths
    → span_at axis given pane.gap (starts_from start pane.gap (lengths ++ (0 ∷ []))) child
    ≡ grid_span axis given pane lengths start child
unfolding span_at grid_span
span_is axis given pane lengths start child within =
    let first = start_at start pane.gap lengths child.index (omega (arith, within)) in
    let last = start_at start pane.gap lengths (child.index + child.span) within in
    let ahead : ℕ = sum (take child.index lengths) in
    let own : ℕ = sum (take child.span (drop child.index lengths)) in
    let both : sum (take (child.index + child.span) lengths) ≡ ahead + own =
    ap sum (take-add child.index child.span lengths)
    ∙ sum_by-append (λ (n : ℕ). n) (take child.index lengths) (take child.span (drop child.index lengths)) in
    let area = area_is pane.gap start ahead own child.index child.span _ _
    (λ none. ap (λ (n : ℕ). sum (take n (drop child.index lengths))) none) first (rw both at last) in
    rw (area, first) refl

map_same : (axis : Axis) (f g : ChildAxis → Span) (P : ChildSize → Type 0)
    → ((child : ChildSize) → P child → f (child_axis axis child) ≡ g (child_axis axis child))
    → (children : List ChildSize) → All P children → map f (along axis children) ≡ map g (along axis children)
map_same axis f g P same [] all = refl
map_same axis f g P same (child ∷ children) all =
    ap (λ (span : Span). span ∷ map f (along axis children)) (same child (All-head P child children all))
    ∙ ap (λ (spans : List Span). g (child_axis axis child) ∷ spans)
    (map_same axis f g P same children (All-tail P child children all))

-- children stand where the starts say
pub spans_are : (axis : Axis) (pane : PaneFacts) (children : List ChildSize) (n : ℕ)
    → map (span_at axis (given_on axis pane) (pane_axis axis pane).gap (grid_starts axis pane (along axis children) n))
    (along axis children)
    ≡ grid_spans axis (given_on axis pane) (pane_axis axis pane) (along axis children) n
unfolding starts_of grid_lengths
spans_are axis pane children n =
    let p : PaneAxis = pane_axis axis pane in
    let given : List Track = given_on axis pane in
    let count_is = length-tracks_of p.gap given (along axis children) in
    let tracks : List Part = tracks_of p.gap given (along axis children) in
    let lengths : List ℕ = tracked (content p n - gaps p.gap (length tracks)) tracks in
    let each : length lengths ≡ track_count given (along axis children) =
    length-tracked (content p n - gaps p.gap (length tracks)) tracks ∙ count_is in
    let start : ℕ = grid_start p n lengths in
    map_same axis (span_at axis given p.gap (starts_from start p.gap (lengths ++ (0 ∷ []))))
    (grid_span axis given p lengths start) (IsWithin axis (length lengths))
    (λ child within. span_is axis given p lengths start (child_axis axis child) within)
    children (within_count axis given children (length lengths) each)
    ∙ rw count_is refl

-- the starts over a place for each length and one more
pub placed_are : (pane : PaneAxis) (n : ℕ) (tracks : List Part) (old lengths : List ℕ) (space between room start : ℕ)
    (starts : List ℕ)
    → length old ≡ length tracks + 1 → space ≡ content pane n → between ≡ gaps pane.gap (length tracks)
    → room ≡ space - between → lengths ≡ tracked room tracks
    → start ≡ grid_start pane n
    (take (length tracks) (set (lengths ++ drop (length tracks) old) (length tracks) 0))
    → starts ≡ starts_from start pane.gap (set (lengths ++ drop (length tracks) old) (length tracks) 0)
    → starts ≡ starts_of pane n tracks
unfolding starts_of
placed_are pane n tracks old lengths space between room start starts
    old_long space_is between_is room_is lengths_are start_is starts_are =
    let each : length lengths ≡ length tracks = ap length lengths_are ∙ length-tracked room tracks in
    let last : ℕ = get_or old (length tracks) 0 in
    let one : drop (length tracks) old ≡ last ∷ [] =
    drop-cons old (length tracks) 0 (omega (arith, old_long))
    ∙ ap (λ (rest : List ℕ). last ∷ rest) (drop_all (suc (length tracks)) old (omega (arith, old_long))) in
    let put : set (lengths ++ drop (length tracks) old) (length tracks) 0 ≡ lengths ++ (0 ∷ []) =
    ap (λ (rest : List ℕ). set (lengths ++ rest) (length tracks) 0) one
    ∙ set_at lengths last [] 0 (length tracks) each in
    let front : take (length tracks) (lengths ++ (0 ∷ [])) ≡ lengths = take_at lengths (0 ∷ []) (length tracks) each in
    rw (starts_are, start_is, put, front, lengths_are, room_is, space_is, between_is) refl

-- the starts by what was worked out before
pub starts_are : (axis : Axis) (pane : PaneFacts) (children : List ChildAxis) (n : ℕ) (facts : PaneAxis)
    (given : List Track) (tracks : List Part) (starts : List ℕ)
    → facts ≡ pane_axis axis pane → given ≡ given_on axis pane → tracks ≡ tracks_of facts.gap given children
    → starts ≡ starts_of facts n tracks → starts ≡ grid_starts axis pane children n
starts_are axis pane children n facts given tracks starts facts_is given_is tracks_is starts_is =
    rw (starts_is, tracks_is, facts_is, given_is) refl

pub rects_are : {E : Type 0} (pane : PaneFacts) (children : List ChildSize) (w h : ℕ) (lefts tops : List ℕ)
    (result : Result (Vec Rect Global) E)
    → lefts ≡ grid_starts Across pane (along Across children) w → tops ≡ grid_starts Down pane (along Down children) h
    → IfOk result (λ rects. rects.items ≡ zip2 rect_of
    (map (span_at Across pane.columns (pane_axis Across pane).gap lefts) (along Across children))
    (map (span_at Down pane.rows (pane_axis Down pane).gap tops) (along Down children)))
    → IfOk result (λ rects. rects.items ≡ grid_rects pane children w h)
rects_are pane children w h lefts tops (Ok rects) lefts_are tops_are are =
    rw (are, lefts_are, tops_are, spans_are Across pane children w, spans_are Down pane children h) refl
rects_are pane children w h lefts tops (Err error) lefts_are tops_are are = are

-- each child ends where a track begins, or behind the last
pub starts_within : (axis : Axis) (given : List Track) (children : List ChildSize) (starts : List ℕ)
    → length starts ≡ track_count given (along axis children) + 1
    → All (λ child. (child_axis axis child).index + (child_axis axis child).span < length starts) children
starts_within axis given children starts each =
    All-weaker (IsWithin axis (track_count given (along axis children)))
    (λ (child : ChildSize). (child_axis axis child).index + (child_axis axis child).span < length starts)
    (λ child within. omega (arith, within, each)) children
    (within_count axis given children _ refl)
