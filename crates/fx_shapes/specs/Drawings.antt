-- All shapes of a look in a rectangle.
use Rattle.std.specs.Prelude.{◌≡◌, ℕ, Bool, ◌&&◌, ◌++◌, not, nat_lt, List, Option, Some, None}
use Rattle.std.specs.List.{filter}
use Rattle.fx_base.specs.declared.geometry.Rect.{Rect}
use Rattle.fx_boxes.specs.Controls.{scale_of}
use Rattle.fx_insets.specs.Insets.{insets_of}
use Rattle.fx_look.specs.declared.looks.Look.{Look}
use Rattle.fx_picture.specs.Bounds.{is_empty}
use Rattle.fx_picture.specs.Shapes.{bounds, color_of}
use Rattle.fx_picture.specs.declared.shapes.Shape.{Shape}
use Rattle.fx_shapes.specs.Layers.{backgrounds, borders}
use Rattle.fx_shapes.specs.Letters.{HasLines, columns_of, content_of, letters_of}

-- a shape that is empty or fully transparent is left out
abbrev pub is_shown : Shape → Bool
is_shown s = nat_lt 0 (color_of s).a && not (is_empty (bounds s))

abbrev pub shown : List Shape → List Shape
shown shapes = filter is_shown shapes

-- a text with these lines is drawn so
pub record IsTextDrawing (look : Look) (r : Rect) (text : List ℕ) (shapes : List Shape) : Type 0 where
  pub ranges : List (ℕ × ℕ)
  pub lines : HasLines look.wrap_text (columns_of (content_of r (insets_of look)) (scale_of look.font_size)) text ranges
  pub drawn : shapes ≡ shown (backgrounds look r) ++ (shown (borders look r) ++ shown (letters_of look r text ranges))

-- these are the shapes of a look in a rectangle, with a text or without one
abbrev pub IsDrawing : Look → Rect → Option (List ℕ) → List Shape → Type 0
IsDrawing look r None shapes = shapes ≡ shown (backgrounds look r) ++ shown (borders look r)
IsDrawing look r (Some text) shapes = IsTextDrawing look r text shapes

-- there is one list of shapes
abbrev pub OneDrawing : Type 0
OneDrawing = (look : Look) (r : Rect) (text : Option (List ℕ)) (one another : List Shape)
    → IsDrawing look r text one → IsDrawing look r text another → one ≡ another
