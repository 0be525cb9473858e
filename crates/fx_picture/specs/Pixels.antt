-- The colour of a point, painted from scratch.
use Rattle.std.specs.Prelude.{ℕ, Bool, List, [], ◌∷◌, if◌then◌else◌}
use Rattle.std.specs.List.{flat_map, list_any}
use Rattle.fx_base.specs.Pixel.{blended, white}
use Rattle.fx_base.specs.Rectangle.{inside}
use Rattle.fx_base.specs.declared.geometry.Rect.{Rect}
use Rattle.fx_picture.specs.declared.entries.Entry.{Entry}
use Rattle.fx_picture.specs.declared.shapes.Shape.{Shape}
use Rattle.fx_picture.specs.Shapes.{color_of, holds}

-- a shape laid over what is there
abbrev pub laid : Shape → ℕ → ℕ → ℕ → ℕ
laid s x y under = if holds s x y then blended (color_of s) under else under

-- each shape that holds the point is laid over what is there, in order
abbrev pub over : ℕ → ℕ → ℕ → List Shape → ℕ
over x y under [] = under
over x y under (s ∷ ss) = over x y (laid s x y under) ss

-- the shapes of all entries, in order
abbrev pub shapes_of : List Entry → List Shape
shapes_of entries = flat_map (λ (e : Entry). e.shapes) entries

-- white, then each shape of the picture that holds the point, in order
abbrev pub pixel : List Entry → ℕ → ℕ → ℕ
pixel entries x y = over x y white (shapes_of entries)

-- whether a point lies in one of the rectangles
abbrev pub covered : List Rect → ℕ → ℕ → Bool
covered rects x y = list_any (λ r. inside r x y) rects
