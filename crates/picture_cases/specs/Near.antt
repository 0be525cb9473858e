-- Whether a rectangle is one that shapes can be made of.
use Rattle.std.specs.Prelude.{ℤ, pos, negsuc, Bool, ◌&&◌, int_le}
use Rattle.fx_base.specs.declared.geometry.Rect.{Rect}

abbrev pub is_short : ℤ → Bool
is_short n = int_le (negsuc 999999999999) n && int_le n (pos 1000000000000)

abbrev pub is_near : Rect → Bool
is_near r = (is_short r.x && is_short r.y) && (is_short r.w && is_short r.h)
