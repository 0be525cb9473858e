-- A picture: its pixels row by row.
use Rattle.std.specs.Prelude.{ℕ, Bool, ◌≡◌, ◌≤◌, ◌<◌, ◌+◌, ◌*◌, ◌==◌, ◌&&◌, List, [], ◌++◌, length, take, drop, replicate, nat_le, nat_lt, if◌then◌else◌}
use Rattle.std.specs.List.{flat_map, range_with_len}
use Rattle.std.specs.Str.{bytes_eq as same_numbers}
use Rattle.fx_base.specs.Pixel.{white}
use Rattle.fx_row_text.specs.Rows.{row_text}

pub record Picture : Type 0 where
  pub width : ℕ
  pub height : ℕ
  pub pixels : List ℕ

-- as many pixels as its size says, and no more than 2,048 by 2,048
pub record IsPicture (picture : Picture) : Type 0 where
  pub full : length picture.pixels ≡ picture.height * picture.width
  pub narrow : picture.width ≤ 2048
  pub low : picture.height ≤ 2048

-- a size that a frame can have
abbrev pub is_size : ℕ → ℕ → Bool
is_size width height = (nat_le 1 width && nat_le width 2048) && (nat_le 1 height && nat_le height 2048)

-- before the first frame
abbrev pub no_picture : Picture
no_picture = record { width = 0; height = 0; pixels = [] }

-- the picture as a frame of this size begins: white where the size differs, else as it was
abbrev pub begun : ℕ → ℕ → Picture → Picture
begun width height picture =
    if (picture.width == width) && (picture.height == height) then picture
    else record { width = width; height = height; pixels = replicate (height * width) white }

-- the row at y, from the top
abbrev pub row_of : Picture → ℕ → List ℕ
row_of picture y = take picture.width (drop (y * picture.width) picture.pixels)

-- where the pixel at (x, y) stands
abbrev pub start_of : Picture → ℕ → ℕ → ℕ
start_of picture x y = y * picture.width + x

-- so many pixels from (x, y) on to the right
abbrev pub pixels_at : Picture → ℕ → ℕ → ℕ → List ℕ
pixels_at picture x y count = take count (drop (start_of picture x y) picture.pixels)

-- whether these pixels stand from (x, y) on
abbrev pub shows : Picture → ℕ → ℕ → List ℕ → Bool
shows picture x y pixels = same_numbers (pixels_at picture x y (length pixels)) pixels

-- these pixels in the place of those from (x, y) on
abbrev pub with_pixels : Picture → ℕ → ℕ → List ℕ → Picture
with_pixels picture x y pixels =
    let start = start_of picture x y in
    record picture {
      pixels = take start picture.pixels ++ (pixels ++ drop (start + length pixels) picture.pixels);
    }

-- the pixels from (x, y) on lie within the picture
pub record Lies (picture : Picture) (x y count : ℕ) : Type 0 where
  pub across : x + count ≤ picture.width
  pub down : y < picture.height

abbrev pub lies : Picture → ℕ → ℕ → ℕ → Bool
lies picture x y count = nat_le (x + count) picture.width && nat_lt y picture.height

-- all rows as text
abbrev pub image : Picture → List ℕ
image picture = flat_map (λ y. row_text (row_of picture y)) (range_with_len 0 picture.height)
