-- A line of letters, laid one character after another.
use Rattle.std.proofs.Common.{◌≡◌, ◌≤◌, ◌*◌, ◌+ℤ◌, ◌≤ℤ◌, ◌&&◌, ◌||◌, ◌∷◌, ◌++◌, [], ℕ, ℤ, pos, List, take, drop, refl, sym, ap, ◌∙◌, arith}
use Rattle.std.proofs.lemmas.Int.{ints}
use Rattle.std.proofs.lemmas.List.{take-append-drop}
use Rattle.fx_cells.specs.Columns.{cell_width, cells_of}
use Rattle.fx_pens.specs.declared.spans.Pen.{Pen}
use Rattle.fx_pens.specs.Dots.{IsLaid, char_dots, line_dots}
use Rattle.fx_pens.proofs.DotLemmas.{laid-same, laid-then}
use Rattle.fx_pens.proofs.LetterLemmas.{add_more, line_apart, line_more, line_rest, wide_one}

-- a character more
pub line_turn : (pen : Pen) (first now : ℤ) (done : List ℕ) (c : ℕ) (old mid new : List ℕ) (p q r : ℕ) → pen.left ≤ pen.right
    → now ≡ first +ℤ pos (4 * cells_of done * pen.scale) → IsLaid pen (line_dots pen first done) old mid p q
    → IsLaid pen (char_dots pen now c) mid new q r → IsLaid pen (line_dots pen first (done ++ c ∷ [])) old new p r
line_turn pen first now done c old mid new p q r rises at l m =
    laid-same pen (λ x. line_dots pen first done x || char_dots pen now c x) (line_dots pen first (done ++ c ∷ [])) old new p r
    (λ x a b. ap (λ z. line_dots pen first done x || char_dots pen z c x) at ∙ line_more pen first done c x) rises
    (laid-then pen (line_dots pen first done) (char_dots pen now c) old mid new p q r rises
    (λ x a b. ap (λ z. line_dots pen first done x && char_dots pen z c x) at ∙ line_apart pen first done c x) l m)

-- where the next one begins
pub place_turn : (pen : Pen) (first now next : ℤ) (done : List ℕ) (c n : ℕ) → now ≡ first +ℤ pos (4 * cells_of done * pen.scale)
    → next ≡ now +ℤ pos (4 * n * pen.scale) → n ≡ cell_width c → next ≡ first +ℤ pos (4 * cells_of (done ++ c ∷ []) * pen.scale)
place_turn pen first now next done c n at more wide =
    more ∙ (ap (λ k. now +ℤ pos (4 * k * pen.scale)) wide
    ∙ (add_more now first (4 * cells_of done * pen.scale) (4 * cell_width c * pen.scale) at
    ∙ ap (λ k. first +ℤ pos k) (sym (wide_one done c pen.scale))))

-- all that is left begins behind the pen's columns
pub line_stop : (pen : Pen) (first : ℤ) (n : ℕ) (cs old new : List ℕ) (p q : ℕ) → pen.left ≤ pen.right
    → pos pen.right ≤ℤ (first +ℤ pos (4 * cells_of (take n cs) * pen.scale)) → IsLaid pen (line_dots pen first (take n cs)) old new p q
    → IsLaid pen (line_dots pen first cs) old new p q
line_stop pen first n cs old new p q rises stop l =
    laid-same pen (line_dots pen first (take n cs)) (line_dots pen first cs) old new p q
    (λ x a b. line_rest pen first (take n cs) (drop n cs) x (omega (arith, ints, b, stop)) ∙ ap (λ l. line_dots pen first l x) (take-append-drop n cs))
    rises l

-- the same where a bit is one pixel wide
pub place_fine : (pen : Pen) (first now next : ℤ) (done : List ℕ) (c : ℕ) → pen.scale ≡ 1 → now ≡ first +ℤ pos (4 * cells_of done * pen.scale)
    → next ≡ now +ℤ pos (4 * cell_width c * 1) → next ≡ first +ℤ pos (4 * cells_of (done ++ c ∷ []) * pen.scale)
place_fine pen first now next done c narrow at more =
    place_turn pen first now next done c (cell_width c) at (more ∙ ap (λ s. now +ℤ pos (4 * cell_width c * s)) (sym narrow)) refl
