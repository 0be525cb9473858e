-- Bounds of what is drawn: JavaFX 21 API, javafx.geometry.Bounds. A point is a column and a row, counted from 0.
use Rattle.std.specs.Prelude.{ℕ, ℤ, pos, Bool, ◌&&◌, ◌||◌, ◌+ℤ◌, ◌-ℤ◌, int_le, int_lt, List, fold, if◌then◌else◌}
use Rattle.std.specs.Int.{int_max, int_min}
use Rattle.std.specs.Ordering.{int_eq}
use Rattle.fx_base.specs.declared.geometry.Rect.{Rect}
use Rattle.fx_picture.specs.declared.edges.Bounds.{Bounds}

-- from this edge on and before that one
unfoldable pub in_range : ℤ → ℤ → ℕ → Bool
in_range low high at = int_le low (pos at) && int_lt (pos at) high

-- whether a point lies within
abbrev pub within : Bounds → ℕ → ℕ → Bool
within b x y = in_range b.min_x b.max_x x && in_range b.min_y b.max_y y

-- the edges of a rectangle
abbrev pub bounds_of : Rect → Bounds
bounds_of r = record { min_x = r.x; min_y = r.y; max_x = r.x +ℤ r.w; max_y = r.y +ℤ r.h }

-- the rectangle between the edges
abbrev pub rect_of : Bounds → Rect
rect_of b = record { x = b.min_x; y = b.min_y; w = b.max_x -ℤ b.min_x; h = b.max_y -ℤ b.min_y }

-- no point lies within
abbrev pub is_empty : Bounds → Bool
is_empty b = int_le b.max_x b.min_x || int_le b.max_y b.min_y

abbrev pub are_same : Bounds → Bounds → Bool
are_same a b =
    int_eq a.min_x b.min_x && (int_eq a.min_y b.min_y && (int_eq a.max_x b.max_x && int_eq a.max_y b.max_y))

-- what both have in common
abbrev pub meet : Bounds → Bounds → Bounds
meet a b = record {
  min_x = int_max a.min_x b.min_x;
  min_y = int_max a.min_y b.min_y;
  max_x = int_min a.max_x b.max_x;
  max_y = int_min a.max_y b.max_y;
}

-- the least bounds around both
abbrev pub hull : Bounds → Bounds → Bounds
hull a b = record {
  min_x = int_min a.min_x b.min_x;
  min_y = int_min a.min_y b.min_y;
  max_x = int_max a.max_x b.max_x;
  max_y = int_max a.max_y b.max_y;
}

-- the same where one of the two may be empty
abbrev pub join : Bounds → Bounds → Bounds
join a b = if is_empty a then b else (if is_empty b then a else hull a b)

-- empty bounds
abbrev pub nowhere : Bounds
nowhere = record { min_x = pos 0; min_y = pos 0; max_x = pos 0; max_y = pos 0 }

-- the bounding box of all
abbrev pub hull_of : List Bounds → Bounds
hull_of all = fold join nowhere all
