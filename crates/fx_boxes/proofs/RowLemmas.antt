-- The sums of a row are those of its parts, one child after the other gets its span, and each child has one.
use Rattle.std.proofs.Common.{◌≡◌, ℕ, suc, ◌+◌, ◌-◌, ◌≤◌, List, [], ◌∷◌, ◌++◌, drop, length, map, refl, sym, ◌∙◌, ap, sum, sum_by, append-nil, arith}
use Rattle.std.specs.Simd.Lanes.{zip2}
use Rattle.std.proofs.lemmas.List.{drop_all, length-map, map-id}
use Rattle.fx_base.specs.declared.facts.ChildSize.{ChildSize}
use Rattle.fx_base.specs.declared.geometry.Rect.{Rect}
use Rattle.fx_panes_parts.specs.declared.axes.Axis.{Axis}
use Rattle.fx_panes_parts.specs.declared.axes.ChildAxis.{ChildAxis}
use Rattle.fx_panes_parts.specs.declared.axes.Extent.{Extent}
use Rattle.fx_panes_parts.specs.declared.axes.PaneAxis.{PaneAxis}
use Rattle.fx_panes_parts.specs.declared.axes.Span.{Span}
use Rattle.fx_panes_parts.specs.declared.parts.Part.{Part}
use Rattle.fx_panes_parts.specs.declared.tracks.Plan.{Plan}
use Rattle.fx_panes_parts.specs.Axes.{along, child_axis, content, gaps, insets}
use Rattle.fx_panes_parts.specs.Lengths.{aligned}
use Rattle.fx_panes_parts.specs.Parts.{greatest_of, part_of}
use Rattle.fx_panes_parts.specs.Sizes.{pane_extent}
use Rattle.fx_panes_parts.specs.Tracks.{lengths_by, tracked}
use Rattle.fx_panes_parts.proofs.PaneLemmas.{OneEach}
use Rattle.fx_panes_parts.proofs.TrackLemmas.{length-tracked}
use Rattle.fx_boxes.specs.declared.rows.Row.{Row}
use Rattle.fx_boxes.specs.Rows.{beside_extent, beside_span, beside_spans, parts_of, rect_along, row_extent, row_spans, span_at, spans_by, spans_from}

pub row_extent_is : (axis : Axis) (pane : PaneAxis) (cs : List ChildSize) (result : Extent) (between low wish : ℕ)
    → between ≡ gaps pane.spacing (length cs)
    → low ≡ sum_by (λ (part : Part). part.min) (parts_of (along axis cs))
    → wish ≡ sum_by (λ (part : Part). part.pref) (parts_of (along axis cs))
    → result ≡ pane_extent pane.own (insets pane + between + low) (insets pane + between + wish)
    → result ≡ row_extent pane (along axis cs)
unfolding row_extent
row_extent_is axis pane cs result between low wish between_is low_is wish_is result_is =
    rw (result_is, between_is, low_is, wish_is, length-map cs (child_axis axis)) refl

pub beside_extent_is : (axis : Axis) (pane : PaneAxis) (cs : List ChildSize) (result : Extent) (low wish : ℕ)
    → low ≡ greatest_of (map (λ (part : Part). part.min) (parts_of (along axis cs)))
    → wish ≡ greatest_of (map (λ (part : Part). part.pref) (parts_of (along axis cs)))
    → result ≡ pane_extent pane.own (insets pane + low) (insets pane + wish)
    → result ≡ beside_extent pane (along axis cs)
unfolding beside_extent
beside_extent_is axis pane cs result low wish low_is wish_is result_is =
    rw (result_is, low_is, wish_is) refl

pub next_span : (old new : Row) (c : ChildAxis) (l : ℕ) (span : Span)
    → new.spacing ≡ old.spacing → new.at ≡ old.at + l + old.spacing → span ≡ span_at old.at c l
    → ((parts : List Part) → lengths_by old.plan (part_of c ∷ parts) ≡ l ∷ lengths_by new.plan parts)
    → (cs : List ChildAxis) → spans_by old (c ∷ cs) ≡ span ∷ spans_by new cs
unfolding spans_by
next_span old new c l span spacing_is at_is span_is lengths cs =
    rw (lengths (parts_of cs), spacing_is, at_is, span_is) refl

length-spans_from : (spacing at : ℕ) (cs : List ChildAxis) (ls : List ℕ) → length ls ≡ length cs
    → length (spans_from spacing at cs ls) ≡ length cs
length-spans_from spacing at [] ls same = refl
length-spans_from spacing at (c ∷ cs) [] same = absurd (omega (arith, same))
length-spans_from spacing at (c ∷ cs) (l ∷ ls) same =
    ap suc (length-spans_from spacing (at + l + spacing) cs ls (omega (arith, same)))

pub one_each_row : OneEach row_spans
unfolding row_spans
one_each_row pane cs n =
    length-spans_from pane.spacing _ cs _ (length-tracked _ (parts_of cs) ∙ length-map cs part_of)

pub one_each_beside : OneEach beside_spans
one_each_beside pane cs n = length-map cs (beside_span pane n)

pub zip2-flip : {A B C : Type 0} (f : A → B → C) (xs : List A) (ys : List B)
    → zip2 (λ y x. f x y) ys xs ≡ zip2 f xs ys
zip2-flip f [] [] = refl
zip2-flip f [] (y ∷ ys) = refl
zip2-flip f (x ∷ xs) [] = refl
zip2-flip f (x ∷ xs) (y ∷ ys) = ap (λ l. f x y ∷ l) (zip2-flip f xs ys)

pub row_starts : (pane : PaneAxis) (cs : List ChildAxis) (parts : List Part) (n space between whole start : ℕ) (plan : Plan)
    → parts ≡ parts_of cs → space ≡ content pane n → between ≡ gaps pane.spacing (length parts)
    → lengths_by plan (map (λ part. part) parts) ≡ tracked (space - between) (map (λ part. part) parts)
    → whole ≡ sum (lengths_by plan (map (λ part. part) parts))
    → start ≡ aligned pane.alignment (whole + between) space
    → spans_by (record { plan = plan; at = pane.before + start; spacing = pane.spacing }) cs ≡ row_spans pane cs n
unfolding spans_by row_spans
row_starts pane cs parts n space between whole start plan are space_is between_is plan_is whole_is start_is =
    let same : map (λ part. part) parts ≡ parts_of cs = map-id parts ∙ are in
    let lengths : lengths_by plan (parts_of cs) ≡ tracked (space - between) (parts_of cs) = rw same at plan_is in
    let sum_is : whole ≡ sum (lengths_by plan (parts_of cs)) = rw same at whole_is in
    let all : whole ≡ sum (tracked (space - between) (parts_of cs)) = sum_is ∙ ap sum lengths in
    let count : length parts ≡ length cs = ap length are ∙ length-map cs part_of in
    rw (lengths, start_is, all, space_is, between_is, count) refl

-- when all children have come, the rectangles are whole
pub rows_end : (axis : Axis) (row : Row) (cs : List ChildSize) (i : ℕ) (spans : List Span) → length cs ≤ i
    → (so_far whole : List Rect)
    → so_far ++ zip2 (rect_along axis) (spans_by row (along axis (drop i cs))) spans ≡ whole → so_far ≡ whole
unfolding spans_by
rows_end axis row cs i spans past so_far whole same =
    let none : drop i cs ≡ [] = drop_all i cs past in
    let rest : so_far ++ zip2 (rect_along axis) (spans_by row (along axis [])) spans ≡ whole = rw none at same in
    sym (append-nil so_far) ∙ rest
