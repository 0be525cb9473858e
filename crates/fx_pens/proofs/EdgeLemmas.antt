-- Edges between which the bits of a row of a glyph lie.
use Rattle.std.proofs.Common.{◌≡◌, ◌<◌, ◌≤◌, ◌*◌, ◌&&◌, ◌+ℤ◌, ◌≤ℤ◌, ℕ, ℤ, pos, negsuc, false, List, refl, sym, ap, ◌∙◌, arith}
use Rattle.std.specs.Prelude.{int_le, int_lt}
use Rattle.std.specs.Int.{int_max, int_min}
use Rattle.std.proofs.lemmas.Int.{ints, clamps}
use Rattle.fx_picture.specs.Bounds.{in_range}
use Rattle.fx_pens.specs.declared.parts.Edges.{Edges}
use Rattle.fx_pens.specs.declared.runs.Bits.{Bits}
use Rattle.fx_pens.specs.declared.spans.Pen.{Pen}
use Rattle.fx_pens.specs.Dots.{AreEdges, DoRise, IsLaid, bit_dots, row_dots}
use Rattle.fx_pens.proofs.DotLemmas.{laid-same}
use Rattle.fx_pens.proofs.GlyphLemmas.{three_laid}
use Rattle.fx_pens.proofs.LetterLemmas.{and_false, three_false}

same_range : (a b c d : ℤ) (x : ℕ) → a ≡ c → b ≡ d → in_range a b x ≡ in_range c d x
same_range a b c d x p q = ap (λ z. in_range z b x) p ∙ ap (λ z. in_range c z x) q

range_past : (low high : ℤ) (x : ℕ) → high ≤ℤ pos x → in_range low high x ≡ false
unfolding in_range
range_past low high x h = let off : int_lt (pos x) high ≡ false = past (pos x) high h in rw off (and_false (int_le low (pos x)))
  where
    past : (n m : ℤ) → m ≤ℤ n → int_lt n m ≡ false
    past n m h = grind (arith, ints)

-- ---- edges brought near
abbrev pub clamped : ℤ → ℤ
clamped at = int_min (int_max at (negsuc 0)) (pos 65536)

le_clamped : (at : ℤ) (x : ℕ) → x < 65536 → int_le (clamped at) (pos x) ≡ int_le at (pos x)
le_clamped at x b = grind (arith, ints, clamps)

lt_clamped : (at : ℤ) (x : ℕ) → x < 65536 → int_lt (pos x) (clamped at) ≡ int_lt (pos x) at
lt_clamped at x b = grind (arith, ints, clamps)

range_clamped : (low high : ℤ) (x : ℕ) → x < 65536 → in_range (clamped low) (clamped high) x ≡ in_range low high x
unfolding in_range
range_clamped low high x b =
    ap (λ t. t && int_lt (pos x) (clamped high)) (le_clamped low x b) ∙ ap (λ t. int_le low (pos x) && t) (lt_clamped high x b)

clamped_rise : (a b c d : ℤ) → c ≡ clamped a → d ≡ clamped b → a ≤ℤ b → c ≤ℤ d
clamped_rise a b c d p q h = omega (arith, ints, clamps, p, q, h)

pub near_rise : (s : ℕ) (start e0 e1 e2 e3 : ℤ) (edges : Edges) → e0 ≡ start → e1 ≡ start +ℤ pos (1 * s)
    → e2 ≡ start +ℤ pos (2 * s) → e3 ≡ start +ℤ pos (3 * s)
    → edges.first ≡ clamped e0 → edges.second ≡ clamped e1 → edges.third ≡ clamped e2 → edges.end ≡ clamped e3 → DoRise edges
near_rise s start e0 e1 e2 e3 edges p0 p1 p2 p3 q0 q1 q2 q3 = record {
  left = clamped_rise e0 e1 edges.first edges.second q0 q1 (omega (arith, ints, p0, p1));
  middle = clamped_rise e1 e2 edges.second edges.third q1 q2 (omega (arith, ints, p1, p2));
  right = clamped_rise e2 e3 edges.third edges.end q2 q3 (omega (arith, ints, p2, p3));
}

pub edges_near : (pen : Pen) (start e0 e1 e2 e3 : ℤ) (edges : Edges) → pen.right ≤ 65536 → e0 ≡ start → e1 ≡ start +ℤ pos (1 * pen.scale)
    → e2 ≡ start +ℤ pos (2 * pen.scale) → e3 ≡ start +ℤ pos (3 * pen.scale)
    → edges.first ≡ clamped e0 → edges.second ≡ clamped e1 → edges.third ≡ clamped e2 → edges.end ≡ clamped e3 → AreEdges pen start edges
edges_near pen start e0 e1 e2 e3 edges near p0 p1 p2 p3 q0 q1 q2 q3 =
    let s = pen.scale in
    record {
      left = λ x b. same_range edges.first edges.second (clamped e0) (clamped e1) x q0 q1
          ∙ (range_clamped e0 e1 x (omega (arith, b, near)) ∙ same_range e0 e1 start (start +ℤ pos s) x p0 (omega (arith, ints, p1)));
      middle = λ x b. same_range edges.second edges.third (clamped e1) (clamped e2) x q1 q2
          ∙ (range_clamped e1 e2 x (omega (arith, b, near))
          ∙ same_range e1 e2 (start +ℤ pos (1 * s)) ((start +ℤ pos (1 * s)) +ℤ pos s) x p1 (omega (arith, ints, p2)));
      right = λ x b. same_range edges.third edges.end (clamped e2) (clamped e3) x q2 q3
          ∙ (range_clamped e2 e3 x (omega (arith, b, near))
          ∙ same_range e2 e3 (start +ℤ pos (2 * s)) ((start +ℤ pos (2 * s)) +ℤ pos s) x p2 (omega (arith, ints, p3)));
    }

-- ---- the bits between them
pub edges_before : (pen : Pen) (start : ℤ) (edges : Edges) (bits : Bits) (x : ℕ) → AreEdges pen start edges → DoRise edges
    → edges.end ≤ℤ pos x → x < pen.right → row_dots pen start bits x ≡ false
unfolding row_dots
edges_before pen start edges bits x are rise h b =
    let one = rise.middle in
    let two = rise.right in
    three_false bits.left bits.middle bits.right _ _ _
    (sym (are.left x b) ∙ range_past edges.first edges.second x (omega (arith, ints, h, one, two)))
    (sym (are.middle x b) ∙ range_past edges.second edges.third x (omega (arith, ints, h, two)))
    (sym (are.right x b) ∙ range_past edges.third edges.end x h)

pub edges_laid : (pen : Pen) (start : ℤ) (edges : Edges) (bits : Bits) (r0 r1 r2 r3 : List ℕ) (p0 p1 p2 p3 : ℕ) → pen.left ≤ pen.right
    → AreEdges pen start edges → IsLaid pen (λ x. bits.left && in_range edges.first edges.second x) r0 r1 p0 p1
    → IsLaid pen (λ x. bits.middle && in_range edges.second edges.third x) r1 r2 p1 p2
    → IsLaid pen (λ x. bits.right && in_range edges.third edges.end x) r2 r3 p2 p3 → IsLaid pen (row_dots pen start bits) r0 r3 p0 p3
edges_laid pen start edges bits r0 r1 r2 r3 p0 p1 p2 p3 rises are l0 l1 l2 =
    let at1 = start +ℤ pos (1 * pen.scale) in
    let at2 = start +ℤ pos (2 * pen.scale) in
    three_laid pen start start at1 at2 bits r0 r1 r2 r3 p0 p1 p2 p3 rises refl refl refl
    (laid-same pen (λ x. bits.left && in_range edges.first edges.second x) (λ x. bits.left && bit_dots pen start x) r0 r1 p0 p1
    (λ x a b. ap (λ t. bits.left && t) (are.left x b)) rises l0)
    (laid-same pen (λ x. bits.middle && in_range edges.second edges.third x) (λ x. bits.middle && bit_dots pen at1 x) r1 r2 p1 p2
    (λ x a b. ap (λ t. bits.middle && t) (are.middle x b)) rises l1)
    (laid-same pen (λ x. bits.right && in_range edges.third edges.end x) (λ x. bits.right && bit_dots pen at2 x) r2 r3 p2 p3
    (λ x a b. ap (λ t. bits.right && t) (are.right x b)) rises l2)
