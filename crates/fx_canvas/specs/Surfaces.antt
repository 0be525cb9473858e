-- The rows of a window: their pixels, and whether the text of a row is out of date.
use Rattle.std.specs.Prelude.{◌≡◌, ◌≤◌, ◌<◌, ◌^◌, ℕ, pos, Bool, true, false, ◌&&◌, List, [], int_le, length, nat_le, replicate, slice_index, slice_index_or}
use Rattle.fx_base.specs.Pixel.{white}
use Rattle.fx_base.specs.declared.geometry.Rect.{Rect}
use Rattle.fx_picture.specs.Bounds.{bounds_of}
use Rattle.fx_picture.specs.declared.edges.Bounds.{Bounds}
use Rattle.fx_row_text.specs.Rows.{row_text}

pub record Line : Type 0 where
  pub pixels : List ℕ
  pub stale : Bool

pub record Surface : Type 0 where
  pub width : ℕ
  pub height : ℕ
  pub rows : List Line

-- what stands behind the last row
abbrev pub no_line : Line
no_line = record { pixels = []; stale = true }

-- so many white pixels, and no text yet
abbrev pub white_line : ℕ → Line
white_line width = record { pixels = replicate width white; stale = true }

abbrev pub row_at : List Line → ℕ → Line
row_at rows y = slice_index_or rows y no_line

abbrev pub pixel_at : List Line → ℕ → ℕ → ℕ
pixel_at rows x y = slice_index (row_at rows y).pixels x

-- each pixel is of three bytes; what lies outside is 0
abbrev pub AreBytes : List Line → Type 0
AreBytes rows = (x y : ℕ) → pixel_at rows x y < 2 ^ 24

-- a text that isn't stale tells what the row shows
abbrev pub IsTold : Bool → List ℕ → List ℕ → Type 0
IsTold stale text pixels = stale ≡ false → text ≡ row_text pixels

abbrev pub is_size : ℕ → ℕ → Bool
is_size w h = (nat_le 1 w && nat_le w 2048) && (nat_le 1 h && nat_le h 2048)

-- as many rows as the height says, each as long as the width, of pixels of three bytes
pub record IsSurface (s : Surface) : Type 0 where
  pub down : length s.rows ≡ s.height
  pub across : (y : ℕ) → y < length s.rows → length (row_at s.rows y).pixels ≡ s.width
  pub narrow : s.width ≤ 2048
  pub low : s.height ≤ 2048
  pub bytes : AreBytes s.rows

-- bounds that begin no earlier than others, and end no later
abbrev pub begins : Bounds → Bounds → Bool
begins outer inner = int_le outer.min_x inner.min_x && int_le outer.min_y inner.min_y

abbrev pub ends : Bounds → Bounds → Bool
ends outer inner = int_le inner.max_x outer.max_x && int_le inner.max_y outer.max_y

abbrev pub encloses : Bounds → Bounds → Bool
encloses outer inner = begins outer inner && ends outer inner

abbrev pub window : ℕ → ℕ → Bounds
window width height = record { min_x = pos 0; min_y = pos 0; max_x = pos width; max_y = pos height }

-- a rectangle of a window of this size
abbrev pub lies_in : ℕ → ℕ → Rect → Bool
lies_in width height r = encloses (window width height) (bounds_of r)
