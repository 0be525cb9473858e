-- Rows of one length, new and changed.
use Rattle.std.proofs.Common.{◌≡◌, ◌<◌, ◌≤◌, ◌&&◌, ◌+ℤ◌, ◌≤ℤ◌, ℕ, ℤ, pos, suc, zero, Bool, true, false, List, [], ◌∷◌, length, get_or, replicate, refl, sym, subst, arith}
use Rattle.std.specs.Prelude.{All, int_le}
use Rattle.std.specs.List.{list_all}
use Rattle.std.proofs.lemmas.Int.{ints}
use Rattle.std.proofs.lemmas.List.Elements.{All-nil, All-cons}
use Rattle.fx_base.specs.declared.geometry.Rect.{Rect}
use Rattle.fx_canvas.specs.Painting.{FitsIn}
use Rattle.fx_canvas.specs.Surfaces.{IsSurface, Line, Surface, lies_in, white_line}
use Rattle.fx_picture.specs.Bounds.{bounds_of}

pub any_line : (rows : List Line) (i : ℕ) (d e : Line) → i < length rows → get_or rows i d ≡ get_or rows i e
any_line [] i d e h = absurd (omega (arith, h))
any_line (x ∷ xs) zero d e h = refl
any_line (x ∷ xs) (suc i) d e h = any_line xs i d e (omega (arith, h))

abbrev pub white_surface : ℕ → ℕ → Surface
white_surface w h = record { width = w; height = h; rows = replicate h (white_line w) }

-- ---- the same lengths
abbrev pub with_rows : Surface → List Line → Surface
with_rows s rows = record s { rows = rows }

-- ---- rectangles of a window
both_true : (a b : Bool) → (a && b) ≡ true → (a ≡ true) × (b ≡ true)
both_true true b h = (refl, h)
both_true false b h = cc

le_tells : (a b : ℤ) → int_le a b ≡ true → a ≤ℤ b
le_tells a b h = grind (arith, ints)

wider : (a : ℤ) (n m : ℕ) → a ≤ℤ pos n → n ≤ m → a ≤ℤ pos m
wider a n m h l = omega (arith, ints)

pub fits_from : (s : Surface) (r : Rect) → IsSurface s → lies_in s.width s.height r ≡ true → FitsIn (bounds_of r) s.rows
fits_from s r is h =
    let all = both_true _ _ h in
    let least = both_true _ _ all.0 in
    let most = both_true _ _ all.1 in
    let right = le_tells (r.x +ℤ r.w) (pos s.width) most.0 in
    let bottom = le_tells (r.y +ℤ r.h) (pos s.height) most.1 in
    record {
      left = le_tells (pos 0) r.x least.0;
      top = le_tells (pos 0) r.y least.1;
      across = λ y l. subst (λ n. (r.x +ℤ r.w) ≤ℤ pos n) (sym (is.across y l)) right;
      down = subst (λ n. (r.y +ℤ r.h) ≤ℤ pos n) (sym is.down) bottom;
      right = wider (r.x +ℤ r.w) s.width 2048 right is.narrow;
      bottom = wider (r.y +ℤ r.h) s.height 2048 bottom is.low;
    }

pub all_fit : (s : Surface) (rs : List Rect) → IsSurface s → list_all (lies_in s.width s.height) rs ≡ true → All (λ r. FitsIn (bounds_of r) s.rows) rs
all_fit s [] is h = All-nil (λ r. FitsIn (bounds_of r) s.rows)
all_fit s (r ∷ rs) is h =
    let parts = both_true (lies_in s.width s.height r) (list_all (lies_in s.width s.height) rs) h in
    All-cons (λ q. FitsIn (bounds_of q) s.rows) r rs (fits_from s r is parts.0) (all_fit s rs is parts.1)
