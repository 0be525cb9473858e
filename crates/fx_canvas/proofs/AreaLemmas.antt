-- A shape that is cut to an area, and drawings over an area.
use Rattle.std.proofs.Common.{◌≡◌, ◌<◌, ◌≤◌, ◌-◌, ◌&&◌, ◌||◌, ◌≤ℤ◌, ◌<ℤ◌, ℕ, ℤ, pos, Bool, true, false, cond, List, [], ◌∷◌, length, refl, sym, ap, subst, ◌∙◌, arith}
use Rattle.std.specs.Prelude.{int_le, int_lt}
use Rattle.std.specs.Int.{int_max, int_min}
use Rattle.std.specs.List.{range_with_len, sum_by}
use Rattle.std.proofs.lemmas.Bool.Decides.{nat_tests}
use Rattle.std.proofs.lemmas.Int.{ints, clamps}
use Rattle.fx_base.specs.Pixel.{blended}
use Rattle.fx_base.specs.Rectangle.{in_span, inside}
use Rattle.fx_base.specs.declared.geometry.Rect.{Rect}
use Rattle.fx_canvas.specs.Painting.{AreEdges, FitsIn, HasEdges, HaveOneSize, IsBlock, IsDrawn, laid_above, laid_in, points_above, points_in, points_of}
use Rattle.fx_canvas.specs.Surfaces.{Line, row_at}
use Rattle.fx_canvas.specs.declared.blocks.Block.{Block}
use Rattle.fx_canvas.proofs.CountLemmas.{points_none}
use Rattle.fx_canvas.proofs.DrawingLemmas.{drawn-none, drawn-same}
use Rattle.fx_pens.specs.Dots.{count_in, is_in}
use Rattle.fx_picture.proofs.BoundsLemmas.{InRange, both_true, within-meet, within-some, within_from, within_tells}
use Rattle.fx_picture.specs.Bounds.{bounds_of, in_range, is_empty, meet, within}
use Rattle.fx_picture.specs.Shapes.{bounds, color_of, holds, whole}
use Rattle.fx_picture.specs.declared.edges.Bounds.{Bounds}
use Rattle.fx_picture.specs.declared.shapes.Shape.{Shape}
use Rattle.fx_picture.specs.declared.shapes.Shape.TheVariants.{Fill, Letters}

-- ---- points of a shape lie within its bounds
pub fill_within : (r : Rect) (x y : ℕ) → inside r x y ≡ within (bounds_of r) x y
unfolding in_span in_range
fill_within r x y = refl

shape_within : (s : Shape) (x y : ℕ) → holds s x y ≡ true → within (bounds s) x y ≡ true
shape_within (Fill r c) x y h = sym (fill_within r x y) ∙ h
shape_within (Letters v w z t r c) x y h = (both_true _ _ h).0

range_first : (a b c d : ℤ) (at : ℕ) → InRange (int_max a c) (int_min b d) at → InRange a b at
range_first a b c d at p =
    let p1 = p.from in let p2 = p.to in
    record { from = omega (arith, ints, clamps); to = omega (arith, ints, clamps) }

range_second : (a b c d : ℤ) (at : ℕ) → InRange (int_max a c) (int_min b d) at → InRange c d at
range_second a b c d at p =
    let p1 = p.from in let p2 = p.to in
    record { from = omega (arith, ints, clamps); to = omega (arith, ints, clamps) }

within_first : (a b : Bounds) (x y : ℕ) → within (meet a b) x y ≡ true → within a x y ≡ true
within_first a b x y h =
    let m = within_tells (meet a b) x y h in
    within_from a x y (record {
      across = range_first a.min_x a.max_x b.min_x b.max_x x m.across;
      down = range_first a.min_y a.max_y b.min_y b.max_y y m.down;
    })

within_second : (a b : Bounds) (x y : ℕ) → within (meet a b) x y ≡ true → within b x y ≡ true
within_second a b x y h =
    let m = within_tells (meet a b) x y h in
    within_from b x y (record {
      across = range_second a.min_x a.max_x b.min_x b.max_x x m.across;
      down = range_second a.min_y a.max_y b.min_y b.max_y y m.down;
    })

within_both : (a b : Bounds) (x y : ℕ) → within a x y ≡ true → within b x y ≡ true → within (meet a b) x y ≡ true
within_both a b x y p q = within_from (meet a b) x y (within-meet a b x y (within_tells a x y p) (within_tells b x y q))

-- ---- a cut
both_from : (a b : Bool) → a ≡ true → b ≡ true → (a && b) ≡ true
both_from true b p q = q
both_from false b p q = p

one_test : (a b : Bool) → (a ≡ true → b ≡ true) → (b ≡ true → a ≡ true) → a ≡ b
one_test true true p q = refl
one_test true false p q = sym (p refl)
one_test false true p q = q refl
one_test false false p q = refl

-- what a shape holds within the cut is what it holds within the area
cut_same : (area : Bounds) (s : Shape) (x y : ℕ) → (within (meet area (bounds s)) x y && holds s x y) ≡ (within area x y && holds s x y)
cut_same area s x y = one_test (within (meet area (bounds s)) x y && holds s x y) (within area x y && holds s x y)
    (λ h. (let p = both_true _ _ h in both_from _ _ (within_first area (bounds s) x y p.0) p.1))
    (λ h. (let p = both_true _ _ h in both_from _ _ (within_both area (bounds s) x y p.0 (shape_within s x y p.1)) p.1))

nested : (a b : Bool) (u v : ℕ) → cond (a && b) u v ≡ cond a (cond b u v) v
nested true b u v = refl
nested false b u v = refl

columns_first : (a b c : Bool) → (a && (b && c)) ≡ ((b && a) && c)
columns_first true true c = refl
columns_first true false c = refl
columns_first false true c = refl
columns_first false false c = refl

range_is : (low high : ℕ) (a b : ℤ) (at : ℕ) → pos low ≡ a → pos high ≡ b → is_in low high at ≡ in_range a b at
unfolding in_range
range_is low high a b at p q = ap (λ z. int_le z (pos at) && int_lt (pos at) (pos high)) p ∙ ap (λ z. int_le a (pos at) && int_lt (pos at) z) q

block_change : (area : Bounds) (s : Shape) (block : Block) → HasEdges block (meet area (bounds s)) → (x y c : ℕ)
    → laid_above block block.bottom s x y c ≡ laid_in area (s ∷ []) x y c
block_change area s block edges x y c =
    let cut = meet area (bounds s) in
    let across = range_is block.left block.right cut.min_x cut.max_x x edges.left edges.right in
    let down = range_is block.top block.bottom cut.min_y cut.max_y y edges.top edges.bottom in
    ap (λ t. cond t (blended (color_of s) c) c)
    (columns_first (is_in block.top block.bottom y) (is_in block.left block.right x) (holds s x y)
    ∙ (ap (λ t. (t && is_in block.top block.bottom y) && holds s x y) across
    ∙ (ap (λ t. (in_range cut.min_x cut.max_x x && t) && holds s x y) down ∙ cut_same area s x y)))
    ∙ nested (within area x y) (holds s x y) (blended (color_of s) c) c

block_points : (area : Bounds) (s : Shape) (block : Block) → HasEdges block (meet area (bounds s)) → points_above block block.bottom s ≡ points_of area s
unfolding points_in
block_points area s block edges =
    let cut = meet area (bounds s) in
    let f : ℕ → ℕ → ℕ → ℕ = λ l r y. count_in (λ x. holds s x y) l r in
    let total : ℕ → ℕ → ℕ → ℕ → ℕ = λ l r t b. sum_by (f l r) (range_with_len t (b - t)) in
    ap (λ z. total (whole z) block.right block.top block.bottom) edges.left
    ∙ (ap (λ z. total (whole cut.min_x) (whole z) block.top block.bottom) edges.right
    ∙ (ap (λ z. total (whole cut.min_x) (whole cut.max_x) (whole z) block.bottom) edges.top
    ∙ ap (λ z. total (whole cut.min_x) (whole cut.max_x) (whole cut.min_y) (whole z)) edges.bottom))

tells : (low high : ℤ) (at : ℕ) → in_range low high at ≡ true → InRange low high at
unfolding in_range
tells low high at h = record { from = grind (arith, ints); to = grind (arith, ints) }

from : (low high : ℤ) (at : ℕ) → InRange low high at → in_range low high at ≡ true
unfolding in_range
from low high at h = let a = h.from in let b = h.to in grind (arith, ints)

-- a row outside the area is outside the cut
not_in : (a b c d : ℤ) (at : ℕ) → in_range a b at ≡ false → in_range (int_max a c) (int_min b d) at ≡ false
not_in a b c d at h = one (in_range (int_max a c) (int_min b d) at) refl
  where
    one : (t : Bool) → in_range (int_max a c) (int_min b d) at ≡ t → t ≡ false
    one true e = (let in' : in_range a b at ≡ true = from a b at (range_first a b c d at (tells (int_max a c) (int_min b d) at e)) in cc)
    one false e = refl

pub area_drawn : (area : Bounds) (s : Shape) (block : Block) (old new : List Line) (p q : ℕ) → HasEdges block (meet area (bounds s))
    → IsDrawn (laid_above block block.bottom s) (is_in block.top block.bottom) (points_above block block.bottom s) old new p q
    → IsDrawn (laid_in area (s ∷ [])) (in_range area.min_y area.max_y) (points_of area s) old new p q
area_drawn area s block old new p q edges drawn =
    let b = bounds s in
    drawn-same (laid_above block block.bottom s) (laid_in area (s ∷ [])) (is_in block.top block.bottom) (in_range area.min_y area.max_y)
    (points_above block block.bottom s) (points_of area s) old new p q (block_change area s block edges)
    (λ y h. range_is block.top block.bottom (meet area b).min_y (meet area b).max_y y edges.top edges.bottom ∙ not_in area.min_y area.max_y b.min_y b.max_y y h)
    (block_points area s block edges) drawn

-- a shape of which nothing lies in the area
pub area_none : (area : Bounds) (s : Shape) (rows : List Line) (p : ℕ) → is_empty (meet area (bounds s)) ≡ true
    → IsDrawn (laid_in area (s ∷ [])) (in_range area.min_y area.max_y) (points_of area s) rows rows p p
area_none area s rows p empty =
    drawn-same (laid_in area (s ∷ [])) (laid_in area (s ∷ [])) (in_range area.min_y area.max_y) (in_range area.min_y area.max_y) 0 (points_of area s) rows rows p p
    (λ x y c. refl) (λ y h. h) (sym (points_none (holds s) (meet area (bounds s)) empty))
    (drawn-none (laid_in area (s ∷ [])) (in_range area.min_y area.max_y) rows p same)
  where
    none : (x y : ℕ) (t : Bool) → (within area x y && holds s x y) ≡ t → t ≡ false
    none x y true e =
        let p = both_true _ _ e in
        let some = within-some (meet area (bounds s)) x y (within_tells (meet area (bounds s)) x y (within_both area (bounds s) x y p.0 (shape_within s x y p.1))) in cc
    none x y false e = refl

    same : (x y c : ℕ) → laid_in area (s ∷ []) x y c ≡ c
    same x y c =
        sym (nested (within area x y) (holds s x y) (blended (color_of s) c) c)
        ∙ ap (λ t. cond t (blended (color_of s) c) c) (none x y (within area x y && holds s x y) refl)

-- ---- the edges of a cut
or_false : (a b : Bool) → (a || b) ≡ false → (a ≡ false) × (b ≡ false)
or_false true b h = cc
or_false false b h = (refl, h)

rises : (a b : ℤ) → int_le a b ≡ false → b <ℤ a
rises a b h = grind (arith, ints)

pub cut_edges : (area b : Bounds) (rows : List Line) → FitsIn area rows → is_empty (meet area b) ≡ false → AreEdges (meet area b)
cut_edges area b rows fits some =
    let m = meet area b in
    let parts = or_false (int_le m.max_x m.min_x) (int_le m.max_y m.min_y) some in
    let across : int_max area.min_x b.min_x <ℤ int_min area.max_x b.max_x = rises _ _ parts.0 in
    let down : int_max area.min_y b.min_y <ℤ int_min area.max_y b.max_y = rises _ _ parts.1 in
    let f1 = fits.left in let f2 = fits.top in let f3 = fits.right in let f4 = fits.bottom in
    record {
      left = omega (arith, ints, clamps);
      across = omega (arith, ints, clamps);
      top = omega (arith, ints, clamps);
      down = omega (arith, ints, clamps);
      right = omega (arith, ints, clamps);
      bottom = omega (arith, ints, clamps);
    }

in_true : (low high at : ℕ) → low ≤ at → at < high → is_in low high at ≡ true
in_true low high at a b = grind (arith, nat_tests)

rise : (low high : ℕ) (a b : ℤ) → pos low ≡ a → pos high ≡ b → a ≤ℤ b → low ≤ high
rise low high a b p q h = omega (arith, ints)

least : (n m : ℕ) (a b : ℤ) → pos n ≡ int_min a b → a ≤ℤ pos m → n ≤ m
least n m a b p h = omega (arith, ints, clamps)

pub cut_block : (area : Bounds) (s : Shape) (block : Block) (rows : List Line) → FitsIn area rows → AreEdges (meet area (bounds s))
    → HasEdges block (meet area (bounds s)) → IsBlock block (bounds s) rows
cut_block area s block rows fits edges has =
    let b = bounds s in
    let cut = meet area b in
    record {
      rises = rise block.left block.right cut.min_x cut.max_x has.left has.right edges.across;
      falls = rise block.top block.bottom cut.min_y cut.max_y has.top has.bottom edges.down;
      across = λ y l. least block.right (length (row_at rows y).pixels) area.max_x b.max_x has.right (fits.across y l);
      down = least block.bottom (length rows) area.max_y b.max_y has.bottom fits.down;
      right = least block.right 2048 area.max_x b.max_x has.right fits.right;
      bottom = least block.bottom 2048 area.max_y b.max_y has.bottom fits.bottom;
      within = λ x y p q r t. within_second area b x y (both_from _ _
          (sym (range_is block.left block.right cut.min_x cut.max_x x has.left has.right) ∙ in_true block.left block.right x p q)
          (sym (range_is block.top block.bottom cut.min_y cut.max_y y has.top has.bottom) ∙ in_true block.top block.bottom y r t));
    }

pub fits-same : (area : Bounds) (old new : List Line) → HaveOneSize old new → FitsIn area old → FitsIn area new
fits-same area old new same fits =
    let down = same.down in
    record {
      left = fits.left;
      top = fits.top;
      across = λ y l. subst (λ n. area.max_x ≤ℤ pos n) (sym (same.across y)) (fits.across y (omega (arith, down, l)));
      down = subst (λ n. area.max_y ≤ℤ pos n) (sym down) fits.down;
      right = fits.right;
      bottom = fits.bottom;
    }
