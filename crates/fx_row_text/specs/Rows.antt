-- A row of pixels as text.
use Rattle.std.specs.Prelude.{ℕ, List, [], ◌∷◌, ◌++◌, map}
use Rattle.std.specs.List.{flat_map, join_with_byte}
use Rattle.fx_text.specs.Characters.{line_feed, space}
use Rattle.fx_base.specs.Pixel.{red_of, green_of, blue_of}
use Rattle.fx_base.specs.Printing.{two_digits}

-- six hexadecimal digits
unfoldable pub pixel_text : ℕ → List ℕ
pixel_text pixel = two_digits (red_of pixel) ++ (two_digits (green_of pixel) ++ two_digits (blue_of pixel))

-- pixels behind one another, with a space between two
abbrev pub pixels_text : List ℕ → List ℕ
pixels_text pixels = join_with_byte space (map pixel_text pixels)

-- pixels, each behind a space
abbrev pub spaced_text : List ℕ → List ℕ
spaced_text pixels = flat_map (λ pixel. space ∷ pixel_text pixel) pixels

-- a row of a picture
unfoldable pub row_text : List ℕ → List ℕ
row_text pixels = pixels_text pixels ++ (line_feed ∷ [])
