-- What repainting does to the rows of a window, and how many pixels it writes.
use Rattle.std.specs.Prelude.{◌≡◌, ◌<◌, ◌≤◌, ℕ, ℤ, pos, Bool, true, false, ◌&&◌, ◌+◌, ◌-◌, ◌*◌, ◌-ℤ◌, ◌≤ℤ◌, List, length, min, if◌then◌else◌}
use Rattle.std.specs.List.{list_any, range_with_len, sum_by}
use Rattle.fx_base.specs.Pixel.{blended}
use Rattle.fx_base.specs.Rectangle.{in_span}
use Rattle.fx_base.specs.declared.color.Color.{Color}
use Rattle.fx_base.specs.declared.geometry.Rect.{Rect}
use Rattle.fx_picture.specs.Bounds.{bounds_of, meet, within}
use Rattle.fx_picture.specs.Pixels.{covered, over, pixel, shapes_of}
use Rattle.fx_picture.specs.Shapes.{bounds, color_of, holds, whole}
use Rattle.fx_picture.specs.declared.edges.Bounds.{Bounds}
use Rattle.fx_picture.specs.declared.entries.Entry.{Entry}
use Rattle.fx_picture.specs.declared.shapes.Shape.{Shape}
use Rattle.fx_picture.specs.declared.shapes.Shape.TheVariants.{Fill, Letters}
use Rattle.fx_canvas.specs.Surfaces.{AreBytes, Line, pixel_at, row_at}
use Rattle.fx_canvas.specs.declared.blocks.Block.{Block}
use Rattle.fx_pens.specs.Dots.{count_in, is_in}
use Rattle.fx_pens.specs.declared.spans.Pen.{Pen}

-- ---- the pixels that are written
-- how many points within bounds pass a test, row by row
unfoldable pub points_in : (ℕ → ℕ → Bool) → Bounds → ℕ
points_in test b = sum_by (λ y. count_in (λ x. test x y) (whole b.min_x) (whole b.max_x))
    (range_with_len (whole b.min_y) (whole b.max_y - whole b.min_y))

-- the points that a shape holds, within what its bounds have in common with an area
abbrev pub points_of : Bounds → Shape → ℕ
points_of area s = points_in (holds s) (meet area (bounds s))

unfoldable pub area_of : Bounds → ℕ
area_of b = whole (b.max_x -ℤ b.min_x) * whole (b.max_y -ℤ b.min_y)

-- each point of a rectangle once in white, and once for each shape that holds it
abbrev pub writes : List Entry → Rect → ℕ
writes entries r = area_of (bounds_of r) + sum_by (points_of (bounds_of r)) (shapes_of entries)

-- its area, and the area that it shares with the bounds of each shape
abbrev pub most_writes : List Entry → Rect → ℕ
most_writes entries r =
    area_of (bounds_of r) + sum_by (λ s. area_of (meet (bounds_of r) (bounds s))) (shapes_of entries)

-- ---- what a point shows then
-- from scratch within the rectangles, and as before outside
abbrev pub repainted : List Entry → List Rect → ℕ → ℕ → ℕ → ℕ
repainted entries rects x y under = if covered rects x y then pixel entries x y else under

-- whether a rectangle has points in a row
abbrev pub is_met : List Rect → ℕ → Bool
is_met rects y = list_any (λ (r : Rect). in_span r.y r.h y) rects

-- ---- steps on the way
-- shapes laid over a point within an area
abbrev pub laid_in : Bounds → List Shape → ℕ → ℕ → ℕ → ℕ
laid_in area shapes x y under = if within area x y then over x y under shapes else under

-- a shape laid over a point in the rows of a block above a row
abbrev pub laid_above : Block → ℕ → Shape → ℕ → ℕ → ℕ → ℕ
laid_above block end s x y under =
    if is_in block.top end y && (is_in block.left block.right x && holds s x y) then blended (color_of s) under
    else under

-- how many pixels that writes
abbrev pub points_above : Block → ℕ → Shape → ℕ
points_above block end s =
    sum_by (λ y. count_in (λ x. holds s x y) block.left block.right) (range_with_len block.top (end - block.top))

-- dots laid over a point in the rows from one on and before another
abbrev pub dots_above : Pen → ℕ → ℕ → (ℕ → ℕ → Bool) → ℕ → ℕ → ℕ → ℕ
dots_above pen top end dots x y under =
    if is_in top end y && (is_in pen.left pen.right x && dots x y) then blended pen.color under else under

-- how many pixels that writes
abbrev pub count_above : Pen → ℕ → ℕ → (ℕ → ℕ → Bool) → ℕ
count_above pen top end dots =
    sum_by (λ y. count_in (λ x. dots x y) pen.left pen.right) (range_with_len top (end - top))

-- of the rows from one on and before another, the first one that lies in this line of a glyph or below it, where the
-- pen stands in the first of them
abbrev pub line_top : Pen → ℕ → ℕ → ℕ → ℕ
line_top pen top bottom line = min bottom (top + (line * pen.scale - pen.below))

-- the row before which nothing of a shape shows
abbrev pub first_row : Shape → ℤ
first_row (Fill rect color) = rect.y
first_row (Letters x y scale text clip color) = clip.y

-- as many rows, each as long
pub record HaveOneSize (old new : List Line) : Type 0 where
  pub down : length new ≡ length old
  pub across : (y : ℕ) → length (row_at new y).pixels ≡ length (row_at old y).pixels

-- each channel of a colour is a byte
pub record HasBytes (color : Color) : Type 0 where
  pub red : color.r < 256
  pub green : color.g < 256
  pub blue : color.b < 256
  pub opacity : color.a < 256

-- each pixel is made of its place and of what it was, rows that fail the test are as they were, so many are counted,
-- and pixels of three bytes stay so
pub record IsDrawn (change : ℕ → ℕ → ℕ → ℕ) (touched : ℕ → Bool) (count : ℕ) (old new : List Line)
    (before after : ℕ) : Type 0 where
  pub sizes : HaveOneSize old new
  pub pixels : (x y : ℕ) → x < length (row_at old y).pixels → pixel_at new x y ≡ change x y (pixel_at old x y)
  pub kept : (y : ℕ) → touched y ≡ false → row_at new y ≡ row_at old y
  pub counted : after ≡ before + count
  pub bytes : AreBytes old → AreBytes new

-- a pen of one colour for the columns of a block
abbrev pub block_pen : Block → Color → Pen
block_pen block color =
    record { left = block.left; right = block.right; scale = 1; below = 0; color = color }

-- dots are laid over the rows above one, of those from another one on and before a third
abbrev pub AreDotted : Pen → ℕ → ℕ → ℕ → (ℕ → ℕ → Bool) → List Line → List Line → ℕ → ℕ → Type 0
AreDotted pen top bottom end dots old new before after =
    IsDrawn (dots_above pen top end dots) (is_in top bottom) (count_above pen top end dots) old new before after

-- there are rows from one on and before another, and each has the pen's columns
pub record HasRows (pen : Pen) (top bottom : ℕ) (rows : List Line) : Type 0 where
  pub falls : top ≤ bottom
  pub down : bottom ≤ length rows
  pub rises : pen.left ≤ pen.right
  pub across : (y : ℕ) → y < length rows → pen.right ≤ length (row_at rows y).pixels
  pub some : 0 < pen.scale
  pub narrow : pen.scale ≤ 65536
  pub near : pen.right ≤ 65536
  pub bytes : HasBytes pen.color

-- the edges lie in the rows
pub record FitsIn (area : Bounds) (rows : List Line) : Type 0 where
  pub left : pos 0 ≤ℤ area.min_x
  pub top : pos 0 ≤ℤ area.min_y
  pub across : (y : ℕ) → y < length rows → area.max_x ≤ℤ pos (length (row_at rows y).pixels)
  pub down : area.max_y ≤ℤ pos (length rows)
  pub right : area.max_x ≤ℤ pos 2048
  pub bottom : area.max_y ≤ℤ pos 2048

-- the same of a block, which lies within bounds
pub record IsBlock (block : Block) (box : Bounds) (rows : List Line) : Type 0 where
  pub rises : block.left ≤ block.right
  pub falls : block.top ≤ block.bottom
  pub across : (y : ℕ) → y < length rows → block.right ≤ length (row_at rows y).pixels
  pub down : block.bottom ≤ length rows
  pub right : block.right ≤ 2048
  pub bottom : block.bottom ≤ 2048
  pub within : (x y : ℕ) → block.left ≤ x → x < block.right → block.top ≤ y → y < block.bottom
      → within box x y ≡ true

-- the block has these edges
pub record HasEdges (block : Block) (b : Bounds) : Type 0 where
  pub left : pos block.left ≡ b.min_x
  pub right : pos block.right ≡ b.max_x
  pub top : pos block.top ≡ b.min_y
  pub bottom : pos block.bottom ≡ b.max_y

-- edges of a block
pub record AreEdges (b : Bounds) : Type 0 where
  pub left : pos 0 ≤ℤ b.min_x
  pub across : b.min_x ≤ℤ b.max_x
  pub top : pos 0 ≤ℤ b.min_y
  pub down : b.min_y ≤ℤ b.max_y
  pub right : b.max_x ≤ℤ pos 2048
  pub bottom : b.max_y ≤ℤ pos 2048
