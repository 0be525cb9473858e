-- A shape laid over the rows of a block, one row after another.
use Rattle.std.proofs.Common.{◌≡◌, ◌<◌, ◌≤◌, ◌+◌, ◌-◌, ◌==◌, ◌&&◌, ◌||◌, ℕ, suc, zero, Bool, true, false, cond, List, [], ◌∷◌, ◌++◌, length, set, refl, sym, ap, ◌∙◌, arith}
use Rattle.std.specs.List.{range_with_len, sum_by}
use Rattle.std.proofs.lemmas.Bool.Decides.{nat_tests}
use Rattle.std.proofs.lemmas.List.Sums.{sum_by_push}
use Rattle.fx_base.specs.Pixel.{blended}
use Rattle.fx_canvas.specs.Painting.{HasBytes, IsDrawn, laid_above, points_above}
use Rattle.fx_canvas.specs.Surfaces.{Line, row_at}
use Rattle.fx_canvas.specs.declared.blocks.Block.{Block}
use Rattle.fx_canvas.proofs.DrawingLemmas.{drawn-then, drawn_row, in_row}
use Rattle.fx_pens.specs.Dots.{IsLaid, count_in, is_in}
use Rattle.fx_pens.specs.Shapes.{plain_pen}
use Rattle.fx_pens.specs.declared.spans.Columns.{Columns}
use Rattle.fx_picture.specs.Shapes.{color_of, holds}
use Rattle.fx_picture.specs.declared.shapes.Shape.{Shape}

pub rows_more : (top end y : ℕ) → top ≤ end → (is_in top end y || (y == end)) ≡ is_in top (end + 1) y
rows_more top end y h = grind (arith, nat_tests)

pub rows_apart : (top end y : ℕ) → (is_in top end y && (y == end)) ≡ false
rows_apart top end y = grind (arith, nat_tests)

pub twice : (a b i : Bool) (f : ℕ → ℕ) (u : ℕ) → (a && b) ≡ false → cond (b && i) (f (cond (a && i) (f u) u)) (cond (a && i) (f u) u) ≡ cond ((a || b) && i) (f u) u
twice true true i f u h = cc
twice true false i f u h = refl
twice false true i f u h = refl
twice false false i f u h = refl

pub range_more : (from count : ℕ) → range_with_len from (suc count) ≡ range_with_len from count ++ ((from + count) ∷ [])
range_more from zero = ap (λ (n : ℕ). n ∷ []) (omega arith)
range_more from (suc count) =
    ap (λ (l : List ℕ). from ∷ l) (range_more (from + 1) count ∙ ap (λ (n : ℕ). range_with_len (from + 1) count ++ (n ∷ [])) (omega arith))

pub sum_more : (f : ℕ → ℕ) (top y : ℕ) → top ≤ y
    → sum_by f (range_with_len top (y - top)) + f y ≡ sum_by f (range_with_len top ((y + 1) - top))
sum_more f top y h =
    let n : (y + 1) - top ≡ suc (y - top) = omega arith in
    let last : top + (y - top) ≡ y = omega arith in
    sym (ap (λ k. sum_by f (range_with_len top k)) n
    ∙ (ap (sum_by f) (range_more top (y - top) ∙ ap (λ (k : ℕ). range_with_len top (y - top) ++ (k ∷ [])) last)
    ∙ sum_by_push f (range_with_len top (y - top)) y))

points_more : (block : Block) (y : ℕ) (s : Shape) → block.top ≤ y
    → points_above block y s + count_in (λ x. holds s x y) block.left block.right ≡ points_above block (y + 1) s
points_more block y s h = sum_more (λ k. count_in (λ x. holds s x k) block.left block.right) block.top y h

abbrev pub columns_of : Block → Columns
columns_of block = record { left = block.left; right = block.right }

pub out_of : (top bottom at y : ℕ) → top ≤ at → at < bottom → is_in top bottom y ≡ false → (y == at) ≡ false
out_of top bottom at y a b h = grind (arith, nat_tests)

pub block_step : (block : Block) (s : Shape) (y : ℕ) (old mid : List Line) (row : Line) (p q r : ℕ)
    → block.top ≤ y → y < block.bottom → y < length mid → HasBytes (color_of s)
    → IsDrawn (laid_above block y s) (is_in block.top block.bottom) (points_above block y s) old mid p q
    → IsLaid (plain_pen (columns_of block) (color_of s)) (λ x. holds s x y) (row_at mid y).pixels row.pixels q r
    → IsDrawn (laid_above block (y + 1) s) (is_in block.top block.bottom) (points_above block (y + 1) s) old (set mid y row) p r
block_step block s at old mid row p q r low high within small drawn laid =
    let more = drawn-then (laid_above block at s) (in_row at (holds s) (plain_pen (columns_of block) (color_of s))) (laid_above block (at + 1) s)
    (is_in block.top block.bottom) (λ y. y == at) (is_in block.top block.bottom)
    (points_above block at s) (count_in (λ x. holds s x at) block.left block.right) old mid (set mid at row) p q r
    change (λ y e. (e, out_of block.top block.bottom at y low high e)) drawn
    (drawn_row mid at row (holds s) (plain_pen (columns_of block) (color_of s)) q r within small laid) in
    record {
      sizes = more.sizes;
      pixels = more.pixels;
      kept = more.kept;
      counted = more.counted ∙ ap (λ k. p + k) (points_more block at s low);
      bytes = more.bytes;
    }
  where
    change : (x y c : ℕ) → in_row at (holds s) (plain_pen (columns_of block) (color_of s)) x y (laid_above block at s x y c) ≡ laid_above block (at + 1) s x y c
    change x y c =
        twice (is_in block.top at y) (y == at) (is_in block.left block.right x && holds s x y) (blended (color_of s)) c (rows_apart block.top at y)
        ∙ ap (λ t. cond (t && (is_in block.left block.right x && holds s x y)) (blended (color_of s) c) c) (rows_more block.top at y low)
