-- What a pane that puts its children in a row does along one axis, as half of its rule.
use Rattle.std.proofs.Common.{◌≡◌, ◌≤◌, ℕ, ℤ, pos, negsuc, All, true, false, true≢false, List, [], ◌∷◌, Option, None, Some, is_some, unwrap_or, length, map, refl, sym, subst, ap, ◌∙◌, arith}
use Rattle.std.specs.Simd.Lanes.{zip2}
use Rattle.std.proofs.lemmas.List.{length-map}
use Rattle.std.proofs.lemmas.List.Elements.{All-map}
use Rattle.fx_base.specs.declared.facts.ChildSize.{ChildSize}
use Rattle.fx_base.specs.declared.facts.PaneFacts.{PaneFacts}
use Rattle.fx_panes_parts.specs.declared.axes.Axis.{Axis}
use Rattle.fx_panes_parts.specs.declared.axes.Axis.TheVariants.{Across, Down}
use Rattle.fx_panes_parts.specs.declared.axes.ChildAxis.{ChildAxis}
use Rattle.fx_panes_parts.specs.declared.axes.PaneAxis.{PaneAxis}
use Rattle.fx_panes_parts.specs.declared.axes.Span.{Span}
use Rattle.fx_panes_parts.specs.Axes.{IsChildAxis, along, child_axis, pane_axis, rect_of}
use Rattle.fx_panes_parts.specs.Lengths.{length_of, longest}
use Rattle.fx_panes_parts.specs.Panes.{placed}
use Rattle.fx_panes_parts.proofs.PaneLemmas.{OneEach}
use Rattle.fx_boxes.specs.declared.sides.RowSide.{RowSide}
use Rattle.fx_boxes.specs.declared.sides.RowSide.TheVariants.{Along, Beside}
use Rattle.fx_boxes.specs.Rows.{clamped}
use Rattle.fx_layout_parts.specs.declared.rules.Rule.{Rule}
use Rattle.fx_layout_parts.specs.declared.rules.Rule.TheVariants as rule
use Rattle.fx_layout_parts.specs.Rules.{across_span, down_span, row_side}
use Rattle.fx_layout_parts.proofs.CellLemmas.{all_are}

some_is : (one other : RowSide) → Some one ≡ Some other → one ≡ other
some_is one other same = ap (λ (o : Option RowSide). unwrap_or o one) same

no_side : (side : RowSide) → Some side ≡ None → ⊥
no_side side same = let h : true ≡ false = ap (λ (o : Option RowSide). is_some o) same in absurd (true≢false h)

-- what holds of the rows of both panes along both axes holds of whatever is a row
pub by_row : (P : Rule → Axis → RowSide → Type 0) → P rule.HBox Across Along → P rule.HBox Down Beside
    → P rule.VBox Across Beside → P rule.VBox Down Along
    → (r : Rule) (axis : Axis) (side : RowSide) → Some side ≡ row_side r axis → P r axis side
by_row P ha hd va vd rule.HBox Across side is = subst (λ s. P rule.HBox Across s) (sym (some_is side Along is)) ha
by_row P ha hd va vd rule.HBox Down side is = subst (λ s. P rule.HBox Down s) (sym (some_is side Beside is)) hd
by_row P ha hd va vd rule.VBox Across side is = subst (λ s. P rule.VBox Across s) (sym (some_is side Beside is)) va
by_row P ha hd va vd rule.VBox Down side is = subst (λ s. P rule.VBox Down s) (sym (some_is side Along is)) vd
by_row P ha hd va vd rule.Region axis side is = absurd (no_side side is)
by_row P ha hd va vd rule.Control axis side is = absurd (no_side side is)
by_row P ha hd va vd rule.Free axis side is = absurd (no_side side is)
by_row P ha hd va vd rule.Border axis side is = absurd (no_side side is)
by_row P ha hd va vd rule.Stack axis side is = absurd (no_side side is)
by_row P ha hd va vd rule.Anchor axis side is = absurd (no_side side is)
by_row P ha hd va vd rule.Grid axis side is = absurd (no_side side is)

first_of : (xs ys : List Span) → length xs ≡ length ys → map across_span (zip2 rect_of xs ys) ≡ map clamped xs
first_of [] ys same = refl
first_of (x ∷ xs) [] same = absurd (omega (arith, same))
first_of (x ∷ xs) (y ∷ ys) same =
    ap (λ (l : List Span). clamped x ∷ l) (first_of xs ys (omega (arith, same)))

second_of : (xs ys : List Span) → length xs ≡ length ys → map down_span (zip2 rect_of xs ys) ≡ map clamped ys
second_of [] [] same = refl
second_of [] (y ∷ ys) same = absurd (omega (arith, same))
second_of (x ∷ xs) [] same = absurd (omega (arith, same))
second_of (x ∷ xs) (y ∷ ys) same =
    ap (λ (l : List Span). clamped y ∷ l) (second_of xs ys (omega (arith, same)))

one_each : (xs ys : PaneAxis → List ChildAxis → ℕ → List Span) → OneEach xs → OneEach ys
    → (p : PaneFacts) (cs : List ChildSize) (w h : ℕ)
    → length (xs (pane_axis Across p) (along Across cs) w) ≡ length (ys (pane_axis Down p) (along Down cs) h)
one_each xs ys one_across one_down p cs w h =
    one_across (pane_axis Across p) (along Across cs) w
    ∙ (length-map cs (child_axis Across) ∙ (sym (length-map cs (child_axis Down))
    ∙ sym (one_down (pane_axis Down p) (along Down cs) h)))

-- the halves of the rectangles of a pane are its spans along each axis
pub placed_across : (xs ys : PaneAxis → List ChildAxis → ℕ → List Span) → OneEach xs → OneEach ys
    → (p : PaneFacts) (cs : List ChildSize) (w h : ℕ)
    → map across_span (placed xs ys p cs w h) ≡ map clamped (xs (pane_axis Across p) (along Across cs) w)
placed_across xs ys one_across one_down p cs w h = first_of _ _ (one_each xs ys one_across one_down p cs w h)

pub placed_down : (xs ys : PaneAxis → List ChildAxis → ℕ → List Span) → OneEach xs → OneEach ys
    → (p : PaneFacts) (cs : List ChildSize) (w h : ℕ)
    → map down_span (placed xs ys p cs w h) ≡ map clamped (ys (pane_axis Down p) (along Down cs) h)
placed_down xs ys one_across one_down p cs w h = second_of _ _ (one_each xs ys one_across one_down p cs w h)

pub length_most : (n : ℤ) → length_of n ≤ longest
length_most (pos n) = grind arith
length_most (negsuc n) = omega arith

axis_held : (axis : Axis) (c : ChildSize) → IsChildAxis (child_axis axis c)
unfolding child_axis
axis_held Across c =
    record {
      min = length_most c.sizes.min_w;
      pref = length_most c.sizes.pref_w;
      max = length_most c.sizes.max_w;
      before = length_most c.margin.left;
      after = length_most c.margin.right;
    }
axis_held Down c =
    record {
      min = length_most c.sizes.min_h;
      pref = length_most c.sizes.pref_h;
      max = length_most c.sizes.max_h;
      before = length_most c.margin.top;
      after = length_most c.margin.bottom;
    }

-- no child is longer along an axis than the longest
pub axes_held : (axis : Axis) (cs : List ChildSize) → All IsChildAxis (along axis cs)
axes_held axis cs =
    All-map IsChildAxis (child_axis axis) cs (all_are (λ (c : ChildSize). IsChildAxis (child_axis axis c)) (axis_held axis) cs)
