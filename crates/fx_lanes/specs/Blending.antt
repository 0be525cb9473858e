-- A packed colour, and pixels as lists of channels.
-- Cited by src/blending.rt; the blending itself is that of the plain types.
use Rattle.std.specs.Prelude.{ℕ, ◌/◌, ◌%◌, List, [], ◌∷◌}
use Rattle.fx_base.specs.declared.color.Color.{Color}
use Rattle.fx_base.specs.Pixel.{pixel_of, red_of, green_of, blue_of}

-- the colour that is packed as 0xRRGGBBAA
abbrev pub packed_color : ℕ → Color
packed_color n = record { r = red_of (n / 256); g = green_of (n / 256); b = blue_of (n / 256); a = n % 256 }

-- the four bytes of a pixel, the lowest first
abbrev pub channels : ℕ → List ℕ
channels pixel = blue_of pixel ∷ green_of pixel ∷ red_of pixel ∷ (pixel / 16777216 % 256) ∷ []

-- the pixels of these bytes, four for each; the fourth is left out
abbrev pub pixels_of : List ℕ → List ℕ
pixels_of (b ∷ g ∷ r ∷ top ∷ bytes) = pixel_of r g b ∷ pixels_of bytes
pixels_of bytes = []
