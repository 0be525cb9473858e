-- What paints a row of a shape, from one column on and before another.
use Rattle.std.specs.Prelude.{◌≡◌, ◌<◌, ◌≤◌, ◌≤ℤ◌, ◌-ℤ◌, ◌^◌, ℕ, ℤ, pos, negsuc, Bool, List, Option, IfSome, true, length, max}
use Rattle.fx_base.specs.declared.color.Color.{Color}
use Rattle.fx_pens.specs.Dots.{IsInk}
use Rattle.fx_pens.specs.declared.spans.Columns.{Columns}
use Rattle.fx_pens.specs.declared.spans.Pen.{Pen}
use Rattle.fx_picture.specs.Bounds.{within}
use Rattle.fx_picture.specs.Shapes.{color_of, whole}
use Rattle.fx_picture.specs.declared.edges.Bounds.{Bounds}
use Rattle.fx_picture.specs.declared.shapes.Shape.{Shape}
use Rattle.fx_picture.specs.declared.shapes.Shape.TheVariants.{Fill, Letters}

-- the columns lie in a row
pub record AreColumns (part : Columns) (row : List ℕ) : Type 0 where
  pub rises : part.left ≤ part.right
  pub within : part.right ≤ length row
  pub near : part.right ≤ 65536

-- the columns of this row lie within bounds
abbrev pub LieWithin : Bounds → Columns → ℕ → Type 0
LieWithin b part y = (x : ℕ) → part.left ≤ x → x < part.right → within b x y ≡ true

-- a pen of one colour
abbrev pub plain_pen : Columns → Color → Pen
plain_pen part color = record { left = part.left; right = part.right; scale = 1; below = 0; color = color }

-- the pen for the rows of letters from this one on
abbrev pub letters_pen : Columns → ℕ → ℤ → ℤ → Color → Pen
letters_pen part top y scale color = record {
  left = part.left;
  right = part.right;
  scale = max (whole scale) 1;
  below = whole (pos top -ℤ y);
  color = color;
}

-- how wide and high a bit of a shape's glyphs is
abbrev pub scale_of : Shape → ℕ
scale_of (Fill rect color) = 1
scale_of (Letters x y scale text clip color) = max (whole scale) 1

-- where a shape's letters begin
abbrev pub first_column : Shape → ℤ
first_column (Fill rect color) = pos 0
first_column (Letters x y scale text clip color) = x

-- what is worked out once for a shape
pub record IsMixed (shape : Shape) (color : Color) (ink : Option ℕ) (scale : ℕ) (is_near : Bool) : Type 0 where
  pub color_is : color ≡ color_of shape
  pub ink_is : IfSome ink (IsInk color)
  pub scale_is : scale ≡ scale_of shape
  pub some : 1 ≤ scale
  pub most : scale ≤ 9223372036854775807
  pub narrow : is_near ≡ true → scale ≤ 65536
  pub near : is_near ≡ true → negsuc (2 ^ 40) ≤ℤ first_column shape
