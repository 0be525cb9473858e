-- The bits of a row of a glyph, laid one after another.
use Rattle.std.proofs.Common.{◌≡◌, ◌≤◌, ◌*◌, ◌/◌, ◌&&◌, ◌||◌, ◌+ℤ◌, ℕ, ℤ, pos, Bool, List, ap, ◌∙◌, arith}
use Rattle.std.proofs.lemmas.Int.{ints}
use Rattle.fx_cells.specs.Columns.{cell_width}
use Rattle.fx_cells.specs.Font.{glyph_of}
use Rattle.fx_pens.specs.declared.runs.Bits.{Bits}
use Rattle.fx_pens.specs.declared.spans.Pen.{Pen}
use Rattle.fx_pens.specs.Dots.{IsLaid, IsPen, bit_dots, bits_of, char_dots, row_dots}
use Rattle.fx_pens.proofs.DotLemmas.{laid-same, laid-then}
use Rattle.fx_pens.proofs.LetterLemmas.{bits_apart, bits_apart_both}
use Rattle.fx_pens.proofs.RunLemmas.{row_is_char, row_same}

pub three_laid : (pen : Pen) (start at0 at1 at2 : ℤ) (bits : Bits) (r0 r1 r2 r3 : List ℕ) (p0 p1 p2 p3 : ℕ) → pen.left ≤ pen.right
    → at0 ≡ start → at1 ≡ start +ℤ pos (1 * pen.scale) → at2 ≡ start +ℤ pos (2 * pen.scale)
    → IsLaid pen (λ x. bits.left && bit_dots pen at0 x) r0 r1 p0 p1 → IsLaid pen (λ x. bits.middle && bit_dots pen at1 x) r1 r2 p1 p2
    → IsLaid pen (λ x. bits.right && bit_dots pen at2 x) r2 r3 p2 p3 → IsLaid pen (row_dots pen start bits) r0 r3 p0 p3
three_laid pen start at0 at1 at2 bits r0 r1 r2 r3 p0 p1 p2 p3 rises e0 e1 e2 l0 l1 l2 =
    let zero' : at0 ≡ start +ℤ pos 0 = e0 ∙ omega (arith, ints) in
    let d0 : ℕ → Bool = λ x. bits.left && bit_dots pen at0 x in
    let d1 : ℕ → Bool = λ x. bits.middle && bit_dots pen at1 x in
    let d2 : ℕ → Bool = λ x. bits.right && bit_dots pen at2 x in
    let two = laid-then pen d0 d1 r0 r1 r2 p0 p1 p2 rises
    (λ x a b. bits_apart pen start at0 at1 0 (1 * pen.scale) x bits.left bits.middle zero' e1 (omega arith)) l0 l1 in
    let three = laid-then pen (λ x. d0 x || d1 x) d2 r0 r2 r3 p0 p2 p3 rises
    (λ x a b. bits_apart_both pen start at0 at1 at2 x bits.left bits.middle bits.right e0 e1 e2) two l2 in
    laid-same pen (λ x. (d0 x || d1 x) || d2 x) (row_dots pen start bits) r0 r3 p0 p3
    (λ x a b. row_same pen start at0 at1 at2 bits x e0 e1 e2) rises three

-- the row of a glyph is that of its character
pub char_laid : (pen : Pen) (at start : ℤ) (c glyph line : ℕ) (bits : Bits) (row old new : List ℕ) (p q : ℕ) → IsPen pen row → at ≡ start
    → bits ≡ bits_of glyph line → glyph ≡ glyph_of c → line ≡ pen.below / pen.scale → 1 ≤ cell_width c
    → IsLaid pen (row_dots pen at bits) old new p q → IsLaid pen (char_dots pen start c) old new p q
char_laid pen at start c glyph line bits row old new p q is_pen here is glyph_is line_is wide l =
    let all : bits ≡ bits_of (glyph_of c) (pen.below / pen.scale) =
    is ∙ (ap (λ n. bits_of n line) glyph_is ∙ ap (λ n. bits_of (glyph_of c) n) line_is) in
    laid-same pen (row_dots pen at bits) (char_dots pen start c) old new p q
    (λ x a b. ap (λ z. row_dots pen z bits x) here
    ∙ (ap (λ (r : Bits). row_dots pen start r x) all ∙ row_is_char pen start c x is_pen.some wide))
    is_pen.rises l
