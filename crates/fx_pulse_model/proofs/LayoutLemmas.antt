-- Layouts of all nodes anew, the sizes of their roots, and rectangles that are near.
use Rattle.std.proofs.Common.{sym, ap, subst, ◌∙◌, ◌≡◌, ◌≤ℤ◌, ℕ, ℤ, pos, negsuc, ◌<◌, ◌≤◌, List, length, min, Option, Some, None, inl, inr, arith}
use Rattle.std.proofs.lemmas.Bool.{cases_lt}
use Rattle.std.proofs.lemmas.Int.{ints}
use Rattle.std.proofs.lemmas.List.{get_or_past}
use Rattle.fx_base.specs.declared.geometry.Rect.{Rect}
use Rattle.fx_kinds.specs.declared.facts.BoxFacts.{BoxFacts}
use Rattle.fx_look.specs.declared.looks.Look.{Look}
use Rattle.fx_panes_parts.specs.declared.axes.Extent.{Extent}
use Rattle.fx_panes_parts.specs.declared.axes.Span.{Span}
use Rattle.fx_shapes.specs.Rects.{IsNear}
use Rattle.fx_layout_sweeps.specs.Nodes.{extent_at, node_at, span_at}
use Rattle.fx_layout.specs.Layouts.{IsLayout}
use Rattle.fx_layout.specs.Updates.{AreRects, Kept, around, corner, from_corner, reached, rect_at, root_length, root_size, shifted}

-- ---- rectangles
reached_low : (z : ℤ) → negsuc 999999999999 ≤ℤ reached z
reached_low (pos n) = omega (arith, ints)
reached_low (negsuc n) = omega (arith, ints)

reached_high : (z : ℤ) → reached z ≤ℤ pos 1000000000000
reached_high (pos n) = omega (arith, ints)
reached_high (negsuc n) = omega (arith, ints)

shifted_near : (outer : Rect) (across down : Span) → IsNear (shifted outer across down)
shifted_near outer across down = record {
  left = reached_low _;
  right = reached_high _;
  top = reached_low _;
  bottom = reached_high _;
  narrow = omega (arith, ints);
  wide = omega (arith, ints);
  low = omega (arith, ints);
  high = omega (arith, ints);
}

corner_near : IsNear corner
corner_near = record {
  left = omega (arith, ints);
  right = omega (arith, ints);
  top = omega (arith, ints);
  bottom = omega (arith, ints);
  narrow = omega (arith, ints);
  wide = omega (arith, ints);
  low = omega (arith, ints);
  high = omega (arith, ints);
}

pub near : (nodes : List BoxFacts) (across down : List Span) (rects : List Rect) → AreRects nodes across down rects
    → (k : ℕ) → IsNear (rect_at rects k)
near nodes across down rects are k = elim (cases_lt k (length nodes)) [
  | inl within ↦ subst IsNear (sym (are.placed k within))
      (shifted_near (around rects (node_at nodes k).parent) (span_at across k) (span_at down k))
  | inr past ↦ subst IsNear (sym (get_or_past rects k corner (omega (arith, past, are.each)))) corner_near
]

-- ---- the root
few : (preferred : Extent) → root_length None preferred ≤ 2048
few preferred = omega arith

across_few : (nodes : List BoxFacts) (looks : List Look) (all : Kept) → IsLayout nodes looks None all
    → (span_at all.across 0).length ≤ 2048
across_few nodes looks all laid =
    subst (λ n. n ≤ 2048) (sym (ap (λ (s : Span). s.length) laid.root_across)) (few (extent_at all.widths 0))

down_few : (nodes : List BoxFacts) (looks : List Look) (all : Kept) → IsLayout nodes looks None all
    → (span_at all.down 0).length ≤ 2048
down_few nodes looks all laid =
    subst (λ n. n ≤ 2048) (sym (ap (λ (s : Span). s.length) laid.root_down)) (few (extent_at all.heights 0))

alike : (a b : ℕ) → a ≤ 2048 → b ≤ 2048 → pos (min a 100000) ≡ pos (min b 100000) → a ≡ b
alike a b p q same = omega (arith, ints)

-- two layouts with the same rectangles have roots of one size
pub one_size : (nodes : List BoxFacts) (looks : List Look) (window : Option (ℕ × ℕ)) (one other : Kept)
    → 0 < length nodes → IsLayout nodes looks window one → IsLayout nodes looks window other
    → one.rects ≡ other.rects → root_size one ≡ root_size other
one_size nodes looks None one other some first second same =
    let rect : rect_at one.rects 0 ≡ rect_at other.rects 0 = ap (λ l. rect_at l 0) same in
    let both = sym (first.rects.placed 0 some) ∙ (rect ∙ second.rects.placed 0 some) in
    let w = alike (span_at one.across 0).length (span_at other.across 0).length (across_few nodes looks one first)
    (across_few nodes looks other second) (ap (λ (r : Rect). r.w) both) in
    let h = alike (span_at one.down 0).length (span_at other.down 0).length (down_few nodes looks one first)
    (down_few nodes looks other second) (ap (λ (r : Rect). r.h) both) in
    ap (λ n. (n, (span_at one.down 0).length)) w ∙ ap (λ n. ((span_at other.across 0).length, n)) h
one_size nodes looks (Some (w, h)) one other some first second same =
    let across = first.root_across ∙ sym second.root_across in
    let down = first.root_down ∙ sym second.root_down in
    ap (λ (s : Span). (s.length, (span_at one.down 0).length)) across
    ∙ ap (λ (s : Span). ((span_at other.across 0).length, s.length)) down

-- the layout without a window is that in the window of its size
pub in_window : (nodes : List BoxFacts) (looks : List Look) (window : Option (ℕ × ℕ)) (all : Kept) (w h : ℕ)
    → IsLayout nodes looks window all → root_size all ≡ (w, h) → IsLayout nodes looks (Some (w, h)) all
in_window nodes looks window all w h laid size = record {
  keys = laid.keys;
  children = laid.children;
  widths = laid.widths;
  root_across = laid.root_across
      ∙ ap from_corner (sym (ap (λ (s : Span). s.length) laid.root_across) ∙ ap (λ (s : ℕ × ℕ). s.0) size);
  across = laid.across;
  heights = laid.heights;
  root_down = laid.root_down
      ∙ ap from_corner (sym (ap (λ (s : Span). s.length) laid.root_down) ∙ ap (λ (s : ℕ × ℕ). s.1) size);
  down = laid.down;
  rects = laid.rects;
}
