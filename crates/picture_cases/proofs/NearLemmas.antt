-- What the test of a rectangle tells.
use Rattle.std.proofs.Common.{◌≡◌, ◌≤ℤ◌, ◌&&◌, ℤ, pos, negsuc, Bool, true, false, refl, arith}
use Rattle.std.specs.Prelude.{int_le}
use Rattle.std.proofs.lemmas.Int.{ints}
use Rattle.fx_base.specs.declared.geometry.Rect.{Rect}
use Rattle.fx_shapes.specs.Rects.{IsNear}
use Rattle.picture_cases.specs.Near.{is_near, is_short}

both_true : (a b : Bool) → (a && b) ≡ true → (a ≡ true) × (b ≡ true)
both_true true b h = (refl, h)
both_true false b h = cc

le_tells : (a b : ℤ) → int_le a b ≡ true → a ≤ℤ b
le_tells a b h = grind (arith, ints)

short_tells : (n : ℤ) → is_short n ≡ true → (negsuc 999999999999 ≤ℤ n) × (n ≤ℤ pos 1000000000000)
short_tells n h =
    let parts = both_true (int_le (negsuc 999999999999) n) (int_le n (pos 1000000000000)) h in
    (le_tells (negsuc 999999999999) n parts.0, le_tells n (pos 1000000000000) parts.1)

pub near_tells : (r : Rect) → is_near r ≡ true → IsNear r
near_tells r h =
    let all = both_true (is_short r.x && is_short r.y) (is_short r.w && is_short r.h) h in
    let places = both_true (is_short r.x) (is_short r.y) all.0 in
    let lengths = both_true (is_short r.w) (is_short r.h) all.1 in
    let x = short_tells r.x places.0 in
    let y = short_tells r.y places.1 in
    let w = short_tells r.w lengths.0 in
    let h = short_tells r.h lengths.1 in
    record {
      left = x.0;
      right = x.1;
      top = y.0;
      bottom = y.1;
      narrow = w.0;
      wide = w.1;
      low = h.0;
      high = h.1;
    }
