-- What is dotted over a block is a fill, or letters.
use Rattle.std.proofs.Common.{◌≡◌, ◌<◌, ◌≤◌, ◌+◌, ◌-◌, ◌*◌, ◌≤ℤ◌, ◌+ℤ◌, ◌-ℤ◌, ℕ, ℤ, pos, true, List, refl, sym, ◌∙◌, arith}
use Rattle.std.specs.Prelude.{chars}
use Rattle.std.specs.Int.{int_max, int_min}
use Rattle.std.proofs.lemmas.Int.{ints, clamps}
use Rattle.fx_base.specs.Rectangle.{inside}
use Rattle.fx_base.specs.declared.color.Color.{Color}
use Rattle.fx_base.specs.declared.geometry.Rect.{Rect}
use Rattle.fx_canvas.specs.Painting.{AreDotted, HasBytes, HasRows, IsBlock, block_pen}
use Rattle.fx_canvas.specs.Surfaces.{Line}
use Rattle.fx_canvas.specs.declared.blocks.Block.{Block}
use Rattle.fx_canvas.proofs.BlockLemmas.{columns_of}
use Rattle.fx_canvas.proofs.CountLemmas.{whole_is}
use Rattle.fx_canvas.proofs.DottedLemmas.{dotted-same, line_rows}
use Rattle.fx_pens.proofs.DotLemmas.{in_true}
use Rattle.fx_pens.proofs.ShapeLemmas.{fill_holds, letters_same}
use Rattle.fx_pens.specs.Dots.{is_in, lowered}
use Rattle.fx_pens.specs.Shapes.{letters_pen}
use Rattle.fx_pens.specs.declared.spans.Pen.{Pen}
use Rattle.fx_picture.proofs.BoundsLemmas.{InRange, within_tells}
use Rattle.fx_picture.specs.Bounds.{bounds_of, meet, within}
use Rattle.fx_picture.specs.Shapes.{bounds, cells_bounds, holds, whole}
use Rattle.fx_picture.specs.declared.edges.Bounds.{Bounds}
use Rattle.fx_picture.specs.declared.shapes.Shape.TheVariants.{Letters}

pub block_rows : (block : Block) (box : Bounds) (rows : List Line) (pen : Pen) → IsBlock block box rows → pen.left ≡ block.left
    → pen.right ≡ block.right → 0 < pen.scale → pen.scale ≤ 65536 → HasBytes pen.color → HasRows pen block.top block.bottom rows
block_rows block box rows pen is left right some narrow bytes =
    let rises = is.rises in
    let few = is.right in
    record {
      falls = is.falls;
      down = is.down;
      rises = omega (arith, left, right, rises);
      across = λ y l. (let wide = is.across y l in omega (arith, right, wide));
      some = some;
      narrow = narrow;
      near = omega (arith, right, few);
      bytes = bytes;
    }

pub fill_drawn : (block : Block) (rect : Rect) (color : Color) (old new : List Line) (p q : ℕ) → IsBlock block (bounds_of rect) old
    → AreDotted (block_pen block color) block.top block.bottom block.bottom (λ x y. is_in block.left block.right x) old new p q
    → AreDotted (block_pen block color) block.top block.bottom block.bottom (inside rect) old new p q
fill_drawn block rect color old new p q is =
    dotted-same (block_pen block color) block.top block.bottom (λ x y. is_in block.left block.right x) (inside rect)
    old new p q is.rises is.falls
    (λ x y a b s t. in_true block.left block.right x a b ∙ sym (fill_holds rect x y (is.within x y a b s t)))

rows_below : (y : ℤ) (top at : ℕ) → y ≤ℤ pos top → top ≤ at → whole (pos top -ℤ y) + (at - top) ≡ whole (pos at -ℤ y)
rows_below y top at h l = omega (arith, ints, clamps, h, l, whole_is (pos top -ℤ y), whole_is (pos at -ℤ y))

first_from : (a b c d : ℤ) (at : ℕ) → InRange (int_max a c) (int_min b d) at → a ≤ℤ pos at
first_from a b c d at h = let p = h.from in omega (arith, ints, clamps, p)

begins_above : (x y s : ℤ) (text : List ℕ) (clip : Rect) (px py : ℕ)
    → within (meet (cells_bounds x y s text) (bounds_of clip)) px py ≡ true → y ≤ℤ pos py
unfolding cells_bounds
begins_above x y s text clip px py h =
    let in' = within_tells (meet (cells_bounds x y s text) (bounds_of clip)) px py h in
    first_from y (y +ℤ pos (6 * whole s)) clip.y (clip.y +ℤ clip.h) py in'.down

pub letters_drawn : (block : Block) (x y s : ℤ) (text : List ℕ) (clip : Rect) (color : Color) (old new : List Line) (p q : ℕ)
    → IsBlock block (bounds (Letters x y s text clip color)) old
    → AreDotted (letters_pen (columns_of block) block.top y s color) block.top block.bottom block.bottom
    (line_rows (letters_pen (columns_of block) block.top y s color) block.top x (chars text)) old new p q
    → AreDotted (letters_pen (columns_of block) block.top y s color) block.top block.bottom block.bottom
    (holds (Letters x y s text clip color)) old new p q
letters_drawn block x y s text clip color old new p q is =
    let pen = letters_pen (columns_of block) block.top y s color in
    dotted-same pen block.top block.bottom (line_rows pen block.top x (chars text)) (holds (Letters x y s text clip color))
    old new p q is.rises is.falls
    (λ px py a b c d. (
    let above : y ≤ℤ pos block.top = begins_above x y s text clip px block.top (is.within px block.top a b (omega arith) (omega (arith, c, d))) in
    letters_same (lowered pen (py - block.top)) x y s text clip color px py refl (rows_below y block.top py above c) (is.within px py a b c d)))
