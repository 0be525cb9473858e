-- Within its bounds, a fill holds every point, and letters the points of their line.
use Rattle.std.proofs.Common.{◌≡◌, ◌≤◌, ◌≤ℤ◌, ◌<ℤ◌, ◌+ℤ◌, ◌-ℤ◌, ◌*◌, ◌&&◌, ℕ, ℤ, pos, true, List, max, sym, ap, ◌∙◌, arith}
use Rattle.std.specs.Prelude.{chars}
use Rattle.std.specs.Int.{int_max, int_min}
use Rattle.std.proofs.lemmas.Int.{ints, clamps}
use Rattle.fx_base.specs.Rectangle.{in_span, inside}
use Rattle.fx_base.specs.declared.color.Color.{Color}
use Rattle.fx_base.specs.declared.geometry.Rect.{Rect}
use Rattle.fx_cells.specs.Columns.{cells_of}
use Rattle.fx_picture.proofs.BoundsLemmas.{InRange, within_tells}
use Rattle.fx_picture.specs.Bounds.{bounds_of, in_range, meet, within}
use Rattle.fx_picture.specs.Shapes.{bounds, cells_bounds, holds, ink, whole}
use Rattle.fx_picture.specs.declared.shapes.Shape.TheVariants.{Letters}
use Rattle.fx_pens.specs.declared.spans.Pen.{Pen}
use Rattle.fx_pens.specs.Dots.{line_dots}

pub fill_holds : (r : Rect) (x y : ℕ) → within (bounds_of r) x y ≡ true → inside r x y ≡ true
unfolding in_span in_range
fill_holds r x y h = h

in_range_true : (low high : ℤ) (at : ℕ) → low ≤ℤ pos at → pos at <ℤ high → in_range low high at ≡ true
unfolding in_range
in_range_true low high at a b = grind (arith, ints)

first_range : (a b c d : ℤ) (at : ℕ) → InRange (int_max a c) (int_min b d) at → (a ≤ℤ pos at) × (pos at <ℤ b)
first_range a b c d at p = let p1 = p.from in let p2 = p.to in (omega (arith, ints, clamps), omega (arith, ints, clamps))

some_scale : (y : ℤ) (s at : ℕ) → y ≤ℤ pos at → pos at <ℤ (y +ℤ pos (6 * s)) → 1 ≤ s
some_scale y s at a b = omega (arith, ints, a, b)

pub letters_same : (pen : Pen) (x y s : ℤ) (text : List ℕ) (clip : Rect) (color : Color) (px py : ℕ)
    → pen.scale ≡ max (whole s) 1 → pen.below ≡ whole (pos py -ℤ y) → within (bounds (Letters x y s text clip color)) px py ≡ true
    → line_dots pen x (chars text) px ≡ holds (Letters x y s text clip color) px py
unfolding line_dots cells_bounds
letters_same pen x y s text clip color px py scale below h =
    let in' = within_tells (meet (cells_bounds x y s text) (bounds_of clip)) px py h in
    let across = first_range x (x +ℤ pos (4 * cells_of (chars text) * whole s)) clip.x (clip.x +ℤ clip.w) px in'.across in
    let down = first_range y (y +ℤ pos (6 * whole s)) clip.y (clip.y +ℤ clip.h) py in'.down in
    let one : 1 ≤ whole s = some_scale y (whole s) py down.0 down.1 in
    let same : pen.scale ≡ whole s = scale ∙ omega (arith, one) in
    let here : in_range x (x +ℤ pos (4 * cells_of (chars text) * whole s)) px ≡ true = in_range_true x (x +ℤ pos (4 * cells_of (chars text) * whole s)) px across.0 across.1 in
    ap (λ n. in_range x (x +ℤ pos (4 * cells_of (chars text) * n)) px && ink (chars text) n (whole (pos px -ℤ x)) pen.below) same
    ∙ (ap (λ n. in_range x (x +ℤ pos (4 * cells_of (chars text) * whole s)) px && ink (chars text) (whole s) (whole (pos px -ℤ x)) n) below
    ∙ (ap (λ t. t && ink (chars text) (whole s) (whole (pos px -ℤ x)) (whole (pos py -ℤ y))) here
    ∙ sym (ap (λ t. t && ink (chars text) (whole s) (whole (pos px -ℤ x)) (whole (pos py -ℤ y))) h)))
