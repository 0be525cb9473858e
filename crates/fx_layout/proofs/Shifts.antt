-- Rectangles that are added up from the root, one behind the other.
use Rattle.std.proofs.Common.{refl, subst, sym, ap, ◌∙◌, ◌≡◌, ℕ, zero, suc, ◌+◌, ◌<◌, ◌≤◌, ◌++◌, ◌∷◌, [], List, Option, None, Some, length, unwrap_or, is_some, inl, inr, arith}
use Rattle.std.proofs.lemmas.Bool.{cases_lt, true≢false}
use Rattle.std.proofs.lemmas.List.{get_or_append_left, get_or_at, get_or-map, length-append, length-map}
use Rattle.fx_base.specs.declared.geometry.Rect.{Rect}
use Rattle.fx_kinds.specs.declared.facts.BoxFacts.{BoxFacts}
use Rattle.fx_panes_parts.specs.declared.axes.Span.{Span}
use Rattle.fx_layout_sweeps.specs.Nodes.{IsTree, no_node, node_at, parent_at, parents, span_at}
use Rattle.fx_layout.specs.Updates.{around, corner, rect_at, shifted}

pub record AreRectsUpTo (nodes : List BoxFacts) (across down : List Span) (rects : List Rect) (n : ℕ) : Type 0 where
  pub each : length rects ≡ n
  pub placed : (p : ℕ) → p < n
      → rect_at rects p ≡ shifted (around rects (node_at nodes p).parent) (span_at across p) (span_at down p)

push_keeps : (rects : List Rect) (x : Rect) (p : ℕ) → p < length rects → rect_at (rects ++ x ∷ []) p ≡ rect_at rects p
push_keeps rects x p within = get_or_append_left rects (x ∷ []) corner p within

around_keeps : (rects : List Rect) (x : Rect) (parent : Option ℕ)
    → ((q : ℕ) → parent ≡ Some q → q < length rects) → around (rects ++ x ∷ []) parent ≡ around rects parent
around_keeps rects x None before = refl
around_keeps rects x (Some q) before = push_keeps rects x q (before q refl)

pub parent_before : (nodes : List BoxFacts) → IsTree (parents nodes) → (p : ℕ) → p < length nodes → (q : ℕ)
    → (node_at nodes p).parent ≡ Some q → q < p
parent_before nodes tree p within q up =
    let read : parent_at (parents nodes) p ≡ Some q =
    get_or-map (λ (n : BoxFacts). n.parent) nodes p no_node None within ∙ up in
    behind p within read
  where
    unwrapped : (r : ℕ) → Some r ≡ Some q → r ≡ q
    unwrapped r e = ap (λ (o : Option ℕ). unwrap_or o 0) e

    behind : (n : ℕ) → n < length nodes → parent_at (parents nodes) n ≡ Some q → q < n
    behind zero few e = absurd (true≢false (ap (λ (o : Option ℕ). is_some o) (sym e ∙ tree.root)))
    behind (suc n) few e =
        let long : length (parents nodes) ≡ length nodes = length-map nodes _ in
        let below = tree.below (suc n) (omega arith) (omega (arith, long, few)) in
        subst (λ r. r < suc n) (unwrapped below.0 (sym below.1 ∙ e)) below.2

pub rects_more : (nodes : List BoxFacts) (across down : List Span) (rects : List Rect) (n : ℕ) → IsTree (parents nodes)
    → n < length nodes → AreRectsUpTo nodes across down rects n → (x : Rect)
    → x ≡ shifted (around rects (node_at nodes n).parent) (span_at across n) (span_at down n)
    → AreRectsUpTo nodes across down (rects ++ x ∷ []) (n + 1)
rects_more nodes across down rects n tree within are x made = record {
  each = omega (arith, length-append rects (x ∷ []), are.each);
  placed = λ p few. elim (cases_lt p n) [
    | inl before ↦ (
        push_keeps rects x p (omega (arith, before, are.each))
        ∙ (are.placed p before
        ∙ ap (λ (outer : Rect). shifted outer (span_at across p) (span_at down p)) (sym (kept p (omega (arith, before, within)) (omega (arith, before))))))
    | inr behind ↦ (
        let here : n ≡ p = omega (arith, behind, few) in
        subst (λ m. rect_at (rects ++ x ∷ []) m
        ≡ shifted (around (rects ++ x ∷ []) (node_at nodes m).parent) (span_at across m) (span_at down m)) here
        (get_or_at rects x [] corner n are.each
        ∙ (made ∙ ap (λ (outer : Rect). shifted outer (span_at across n) (span_at down n)) (sym (kept n within (omega arith))))))
  ];
}
  where
    kept : (p : ℕ) → p < length nodes → p ≤ n
        → around (rects ++ x ∷ []) (node_at nodes p).parent ≡ around rects (node_at nodes p).parent
    kept p few most = around_keeps rects x (node_at nodes p).parent
        (λ q up. omega (arith, parent_before nodes tree p few q up, most, are.each))
