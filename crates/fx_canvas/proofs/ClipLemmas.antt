-- Letters whose clip lies outside an area aren't painted there, nor is what begins below it.
use Rattle.std.proofs.Common.{refl, ap, ◌≡◌, ◌≤ℤ◌, ◌+ℤ◌, Bool, true, false, ◌||◌, ℤ, arith}
use Rattle.std.proofs.lemmas.Int.{ints, clamps}
use Rattle.std.specs.Int.{int_max, int_min}
use Rattle.std.specs.Prelude.{int_le}
use Rattle.fx_canvas.specs.Painting.{first_row}
use Rattle.fx_picture.specs.Bounds.{bounds_of, is_empty, meet}
use Rattle.fx_picture.specs.Shapes.{bounds, cells_bounds}
use Rattle.fx_picture.specs.declared.edges.Bounds.{Bounds}
use Rattle.fx_picture.specs.declared.shapes.Shape.{Shape}
use Rattle.fx_picture.specs.declared.shapes.Shape.TheVariants.{Fill, Letters}

narrower : (a b c d e f : ℤ) → int_le (int_min a b) (int_max c d) ≡ true
    → int_le (int_min a (int_min e b)) (int_max c (int_max f d)) ≡ true
narrower a b c d e f none = grind (arith, ints)

either : (p q r s : Bool) → (p ≡ true → r ≡ true) → (q ≡ true → s ≡ true) → (p || q) ≡ true → (r || s) ≡ true
either true q r s one two is = ap (λ b. b || s) (one refl)
either false q r s one two is = last r (two is)
  where
    last : (b : Bool) → s ≡ true → (b || s) ≡ true
    last true e = refl
    last false e = e

pub clipped : (area cells clip : Bounds) → is_empty (meet area clip) ≡ true → is_empty (meet area (meet cells clip)) ≡ true
clipped area cells clip none =
    either (int_le (int_min area.max_x clip.max_x) (int_max area.min_x clip.min_x))
    (int_le (int_min area.max_y clip.max_y) (int_max area.min_y clip.min_y))
    (int_le (int_min area.max_x (int_min cells.max_x clip.max_x)) (int_max area.min_x (int_max cells.min_x clip.min_x)))
    (int_le (int_min area.max_y (int_min cells.max_y clip.max_y)) (int_max area.min_y (int_max cells.min_y clip.min_y)))
    (narrower area.max_x clip.max_x area.min_x clip.min_x cells.max_x cells.min_x)
    (narrower area.max_y clip.max_y area.min_y clip.min_y cells.max_y cells.min_y) none

-- ---- shapes below an area
or_second : (a b : Bool) → b ≡ true → (a || b) ≡ true
or_second true b h = refl
or_second false b h = h

none_left : (bottom end top first : ℤ) → bottom ≤ℤ first → int_le (int_min bottom end) (int_max top first) ≡ true
none_left bottom end top first h = le_true (int_min bottom end) (int_max top first) (omega (arith, ints, clamps, h))
  where
    le_true : (a b : ℤ) → a ≤ℤ b → int_le a b ≡ true
    le_true a b h = grind (arith, ints)

later : (bottom one other : ℤ) → bottom ≤ℤ other → bottom ≤ℤ int_max one other
later bottom one other h = omega (arith, ints, clamps, h)

pub below_empty : (area : Bounds) (s : Shape) → area.max_y ≤ℤ first_row s → is_empty (meet area (bounds s)) ≡ true
below_empty area (Fill r c) h =
    let m = meet area (bounds_of r) in
    or_second (int_le m.max_x m.min_x) (int_le m.max_y m.min_y) (none_left area.max_y (r.y +ℤ r.h) area.min_y r.y h)
below_empty area (Letters x y s t r c) h =
    let cells = cells_bounds x y s t in
    let m = meet area (meet cells (bounds_of r)) in
    or_second (int_le m.max_x m.min_x) (int_le m.max_y m.min_y)
    (none_left area.max_y (int_min cells.max_y (r.y +ℤ r.h)) area.min_y (int_max cells.min_y r.y) (later area.max_y cells.min_y r.y h))
