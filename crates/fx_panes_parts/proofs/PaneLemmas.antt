-- Rules for each axis see nothing of the other.
use Rattle.std.proofs.Common.{◌≡◌, ℕ, ℤ, List, [], ◌∷◌, length, map, refl, sym, ◌∙◌, ap, arith}
use Rattle.std.specs.Simd.Lanes.{zip2}
use Rattle.std.proofs.lemmas.List.{length-map}
use Rattle.std.proofs.lemmas.Simd.{length-zip2}
use Rattle.fx_base.specs.declared.facts.ChildSize.{ChildSize}
use Rattle.fx_base.specs.declared.facts.PaneFacts.{PaneFacts}
use Rattle.fx_panes_parts.specs.declared.axes.Axis.TheVariants.{Across, Down}
use Rattle.fx_panes_parts.specs.declared.axes.ChildAxis.{ChildAxis}
use Rattle.fx_panes_parts.specs.declared.axes.Extent.{Extent}
use Rattle.fx_panes_parts.specs.declared.axes.PaneAxis.{PaneAxis}
use Rattle.fx_panes_parts.specs.declared.axes.Span.{Span}
use Rattle.fx_panes_parts.specs.Axes.{along, child_axis, pane_axis, rect_of}
use Rattle.fx_panes_parts.specs.Lengths.{pixels}
use Rattle.fx_panes_parts.specs.Panes.{IsAcrossFirst, across_of, measured, placed}

-- a list of spans has one for each child
abbrev pub OneEach : (PaneAxis → List ChildAxis → ℕ → List Span) → Type 0
OneEach spans = (pane : PaneAxis) (children : List ChildAxis) (n : ℕ) → length (spans pane children n) ≡ length children

-- where a span lies, as a rectangle has it
abbrev shown : Span → ℤ × ℤ
shown span = (span.start, pixels span.length)

across_zip : (xs ys : List Span) → length xs ≡ length ys → map across_of (zip2 rect_of xs ys) ≡ map shown xs
across_zip [] ys same = refl
across_zip (x ∷ xs) [] same = absurd (omega (arith, same))
across_zip (x ∷ xs) (y ∷ ys) same = ap (λ (l : List (ℤ × ℤ)). shown x ∷ l) (across_zip xs ys (omega (arith, same)))

pub length-placed : (xs ys : PaneAxis → List ChildAxis → ℕ → List Span) → OneEach xs → OneEach ys
    → (p : PaneFacts) (cs : List ChildSize) (w h : ℕ) → length (placed xs ys p cs w h) ≡ length cs
length-placed xs ys one_across one_down p cs w h =
    let first : length (xs (pane_axis Across p) (along Across cs) w) ≡ length cs =
    one_across (pane_axis Across p) (along Across cs) w ∙ length-map cs (child_axis Across) in
    let second : length (ys (pane_axis Down p) (along Down cs) h) ≡ length cs =
    one_down (pane_axis Down p) (along Down cs) h ∙ length-map cs (child_axis Down) in
    length-zip2 rect_of _ _ (first ∙ sym second) ∙ first

pub across_first : (widths heights : PaneAxis → List ChildAxis → Extent)
    (xs ys : PaneAxis → List ChildAxis → ℕ → List Span) → OneEach xs → OneEach ys
    → IsAcrossFirst (measured widths heights) (placed xs ys)
across_first widths heights xs ys one_across one_down =
    record {
      widths = λ p q cs ds same_pane same_children. rw (same_pane, same_children) refl;
      spans = λ p q cs ds same_pane same_children w h k.
          half p cs w h ∙ (rw (same_pane, same_children) refl ∙ sym (half q ds w k));
    }
  where
    half : (p : PaneFacts) (cs : List ChildSize) (w h : ℕ)
        → map across_of (placed xs ys p cs w h) ≡ map shown (xs (pane_axis Across p) (along Across cs) w)
    half p cs w h =
        across_zip (xs (pane_axis Across p) (along Across cs) w) (ys (pane_axis Down p) (along Down cs) h)
        (one_across (pane_axis Across p) (along Across cs) w
        ∙ (length-map cs (child_axis Across) ∙ (sym (length-map cs (child_axis Down))
        ∙ sym (one_down (pane_axis Down p) (along Down cs) h))))
