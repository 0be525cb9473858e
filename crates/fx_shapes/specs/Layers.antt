-- The shapes of a look's backgrounds and borders: JavaFX CSS Reference Guide, Region.
use Rattle.std.specs.Prelude.{ℕ, ℤ, pos, ◌+ℤ◌, ◌-ℤ◌, List, [], ◌∷◌, map}
use Rattle.std.specs.Int.{int_min}
use Rattle.std.specs.List.{enumerate_from, flat_map}
use Rattle.fx_base.specs.declared.color.Color.{Color}
use Rattle.fx_base.specs.declared.geometry.Rect.{Rect}
use Rattle.fx_base.specs.declared.geometry.Sides.{Sides}
use Rattle.fx_insets.specs.Insets.{layer_at}
use Rattle.fx_insets.specs.declared.insets.Side.{Side}
use Rattle.fx_insets.specs.declared.insets.Side.TheVariants.{Top, Right, Bottom, Left}
use Rattle.fx_look.specs.declared.looks.Look.{Look}
use Rattle.fx_panes_parts.specs.Lengths.{length_of, place_of}
use Rattle.fx_picture.specs.declared.shapes.Shape.{Shape}
use Rattle.fx_picture.specs.declared.shapes.Shape.TheVariants.{Fill}

-- a rectangle less these lengths on its sides
unfoldable pub shrunk : Rect → Sides → Rect
shrunk r s = record {
  x = r.x +ℤ s.left;
  y = r.y +ℤ s.top;
  w = r.w -ℤ (s.left +ℤ s.right);
  h = r.h -ℤ (s.top +ℤ s.bottom);
}

-- the lengths as layout takes them for places
unfoldable pub placed : Sides → Sides
placed s = record {
  top = place_of s.top;
  right = place_of s.right;
  bottom = place_of s.bottom;
  left = place_of s.left;
}

-- the rectangle of a layer with these insets
abbrev pub inner : Rect → Sides → Rect
inner r s = shrunk r (placed s)

-- the background's layers
abbrev pub background_at : Look → Rect → ℕ × Color → Shape
background_at look r layer = Fill (inner r (layer_at look.background_insets layer.0)) layer.1

abbrev pub backgrounds : Look → Rect → List Shape
backgrounds look r = map (background_at look r) (enumerate_from 0 look.background_color)

-- what a strip of this width takes of a length
unfoldable pub strip : ℤ → ℤ → ℤ
strip width length = int_min (pos (length_of width)) length

-- the widths of the four strips in a rectangle: the one below is cut to what the one above leaves, and the right one
-- to what the left one leaves
unfoldable pub cut_widths : Rect → Sides → Sides
cut_widths r s = record {
  top = strip s.top r.h;
  right = strip s.right (r.w -ℤ strip s.left r.w);
  bottom = strip s.bottom (r.h -ℤ strip s.top r.h);
  left = strip s.left r.w;
}

-- strips of these widths: above, below, and between them on the left and on the right
unfoldable pub strip_on : Side → Rect → Sides → Rect
strip_on Top r s = record { x = r.x; y = r.y; w = r.w; h = s.top }
strip_on Bottom r s = record { x = r.x; y = r.y +ℤ (r.h -ℤ s.bottom); w = r.w; h = s.bottom }
strip_on Left r s = record { x = r.x; y = r.y +ℤ s.top; w = s.left; h = r.h -ℤ (s.top +ℤ s.bottom) }
strip_on Right r s = record {
  x = r.x +ℤ (r.w -ℤ s.right);
  y = r.y +ℤ s.top;
  w = s.right;
  h = r.h -ℤ (s.top +ℤ s.bottom);
}

-- the order in which the strips are painted
abbrev pub painted_sides : List Side
painted_sides = Top ∷ Bottom ∷ Left ∷ Right ∷ []

-- a border in a rectangle
abbrev pub strips : Rect → Sides → Color → List Shape
strips r s color = map (λ side. Fill (strip_on side r (cut_widths r s)) color) painted_sides

-- the border's layers
abbrev pub border_layer : Look → Rect → ℕ × Color → List Shape
border_layer look r layer =
    strips (inner r (layer_at look.border_insets layer.0)) (layer_at look.border_width layer.0) layer.1

abbrev pub borders : Look → Rect → List Shape
borders look r = flat_map (border_layer look r) (enumerate_from 0 look.border_color)
