-- A used length that stops at the end of the type is aligned as the whole one.
use Rattle.std.proofs.Common.{◌≡◌, ◌≤◌, ◌≤ℤ◌, ◌-◌, ℕ, ℤ, pos, negsuc, min, refl, arith}
use Rattle.std.proofs.lemmas.Int.{ints}
use Rattle.fx_base.specs.declared.geometry.Rect.{Rect}
use Rattle.fx_panes_parts.specs.Lengths.{aligned}
use Rattle.fx_picture.specs.Shapes.{whole}
use Rattle.fx_shapes.specs.Rects.{IsContent}

pub aligned_capped : (how used most free : ℕ) → free ≤ most → aligned how (min used most) free ≡ aligned how used free
aligned_capped how used most free h =
    let e : free - min used most ≡ free - used = omega arith in rw e refl

whole_short : (n : ℤ) → n ≤ℤ pos 2000000000000 → whole n ≤ 18446744073709551615
whole_short (pos n) h = omega (arith, ints)
whole_short (negsuc n) h = omega arith

-- the width of a content is far below the end of the type
pub short_whole : (r : Rect) → IsContent r → whole r.w ≤ 18446744073709551615
short_whole r content = whole_short r.w content.near.wide
