-- Points of a rectangle. A point is a column and a row, counted from 0.
use Rattle.std.specs.Prelude.{ℕ, ℤ, pos, Bool, ◌&&◌, ◌+ℤ◌, int_le, int_lt}
use Rattle.fx_base.specs.declared.geometry.Rect.{Rect}

-- from this edge on and before the edge that lies this far behind it
unfoldable pub in_span : ℤ → ℤ → ℕ → Bool
in_span from size at = int_le from (pos at) && int_lt (pos at) (from +ℤ size)

abbrev pub inside : Rect → ℕ → ℕ → Bool
inside r x y = in_span r.x r.w x && in_span r.y r.h y
