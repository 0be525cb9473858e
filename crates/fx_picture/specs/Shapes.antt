-- Shapes, their bounds, and the points that they hold. A character's glyph stands in the first of its cells: each bit
-- is one scale by one, in three columns and five rows.
use Rattle.std.specs.Prelude.{ℕ, ℤ, pos, negsuc, Bool, false, ◌&&◌, ◌+◌, ◌*◌, ◌-◌, ◌/◌, ◌%◌, ◌^◌, ◌==◌, ◌+ℤ◌, ◌-ℤ◌, List, [], ◌∷◌, nat_lt, chars, if◌then◌else◌}
use Rattle.fx_base.specs.Rectangle.{inside}
use Rattle.fx_base.specs.declared.color.Color.{Color}
use Rattle.fx_cells.specs.Columns.{cell_width, cells_of}
use Rattle.fx_cells.specs.Font.{glyph_of}
use Rattle.fx_picture.specs.Bounds.{bounds_of, meet, within}
use Rattle.fx_picture.specs.declared.edges.Bounds.{Bounds}
use Rattle.fx_picture.specs.declared.shapes.Shape.{Shape}
use Rattle.fx_picture.specs.declared.shapes.Shape.TheVariants.{Fill, Letters}

-- a number as a natural one
abbrev pub whole : ℤ → ℕ
whole (pos n) = n
whole (negsuc n) = 0

abbrev pub color_of : Shape → Color
color_of (Fill rect color) = color
color_of (Letters x y scale text clip color) = color

-- the cells of a text whose first one begins here: each is four scales wide and six high
unfoldable pub cells_bounds : ℤ → ℤ → ℤ → List ℕ → Bounds
cells_bounds x y scale text = record {
  min_x = x;
  min_y = y;
  max_x = x +ℤ pos (4 * cells_of (chars text) * whole scale);
  max_y = y +ℤ pos (6 * whole scale);
}

abbrev pub bounds : Shape → Bounds
bounds (Fill rect color) = bounds_of rect
bounds (Letters x y scale text clip color) = meet (cells_bounds x y scale text) (bounds_of clip)

-- the bit of a glyph in this column and row
unfoldable pub has_dot : ℕ → ℕ → ℕ → Bool
has_dot glyph column row = (nat_lt column 3 && nat_lt row 5) && (glyph / 2 ^ (14 - (3 * row + column)) % 2 == 1)

-- whether letters of these characters are drawn so far to the right of their first cell and below it
unfoldable pub ink : List ℕ → ℕ → ℕ → ℕ → Bool
ink [] scale right below = false
ink (c ∷ cs) scale right below =
    if nat_lt right (4 * cell_width c * scale) then has_dot (glyph_of c) (right / scale) (below / scale)
    else ink cs scale (right - 4 * cell_width c * scale) below

-- whether a shape holds a point
abbrev pub holds : Shape → ℕ → ℕ → Bool
holds (Fill rect color) px py = inside rect px py
holds (Letters x y scale text clip color) px py =
    within (meet (cells_bounds x y scale text) (bounds_of clip)) px py
    && ink (chars text) (whole scale) (whole (pos px -ℤ x)) (whole (pos py -ℤ y))
