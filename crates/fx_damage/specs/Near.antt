-- Boxes whose edges fit in 64 bits, as those of shapes near the window do.
use Rattle.std.specs.Prelude.{ℤ, pos, negsuc, Bool, ◌&&◌, ◌≤ℤ◌, int_le}
use Rattle.fx_base.specs.declared.geometry.Rect.{Rect}
use Rattle.fx_damage.specs.declared.near.Edges.{Edges}
use Rattle.fx_picture.specs.declared.edges.Bounds.{Bounds}

-- the same edges as bounds
abbrev pub wide : Edges → Bounds
wide e = record { min_x = e.min_x; min_y = e.min_y; max_x = e.max_x; max_y = e.max_y }

-- a number lies in -2^40 to 2^40
abbrev pub IsNear : ℤ → Type 0
IsNear n = (negsuc 1099511627775 ≤ℤ n) × (n ≤ℤ pos 1099511627776)

abbrev pub is_near : ℤ → Bool
is_near n = int_le (negsuc 1099511627775) n && int_le n (pos 1099511627776)

-- and so do all numbers of a rectangle
pub record IsNearRect (r : Rect) : Type 0 where
  pub left : IsNear r.x
  pub top : IsNear r.y
  pub width : IsNear r.w
  pub height : IsNear r.h

abbrev pub is_near_rect : Rect → Bool
is_near_rect r = (is_near r.x && is_near r.y) && (is_near r.w && is_near r.h)

-- and all numbers of letters
abbrev pub are_near : ℤ → ℤ → ℤ → Rect → Bool
are_near x y scale clip = (is_near x && is_near y) && (is_near scale && is_near_rect clip)

-- no edge of the second lies outside the first
abbrev pub spans_across : Bounds → Bounds → Bool
spans_across a b = int_le a.min_x b.min_x && int_le b.max_x a.max_x

abbrev pub spans_down : Bounds → Bounds → Bool
spans_down a b = int_le a.min_y b.min_y && int_le b.max_y a.max_y

abbrev pub encloses : Bounds → Bounds → Bool
encloses a b = spans_across a b && spans_down a b
