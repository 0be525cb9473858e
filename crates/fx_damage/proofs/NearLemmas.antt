-- What the tests of near numbers tell, and boxes made of their edges.
use Rattle.std.proofs.Common.{◌≡◌, ◌≤ℤ◌, ◌&&◌, ◌∙◌, ℤ, pos, negsuc, Bool, true, false, cond, refl, ap, arith}
use Rattle.std.specs.Prelude.{int_le}
use Rattle.std.specs.Int.{int_max, int_min}
use Rattle.std.proofs.lemmas.Int.{ints, clamps}
use Rattle.fx_base.specs.declared.geometry.Rect.{Rect}
use Rattle.fx_damage.specs.Near.{IsNear, IsNearRect, are_near, encloses, is_near, is_near_rect, spans_across, spans_down}
use Rattle.fx_picture.specs.declared.edges.Bounds.{Bounds}
use Rattle.fx_picture.specs.Bounds.{hull, is_empty, join, meet}

both_true : (a b : Bool) → (a && b) ≡ true → (a ≡ true) × (b ≡ true)
both_true true b h = (refl, h)
both_true false b h = cc

le_tells : (a b : ℤ) → int_le a b ≡ true → a ≤ℤ b
le_tells a b h = grind (arith, ints)

near_tells : (n : ℤ) → is_near n ≡ true → IsNear n
near_tells n h =
    let parts = both_true (int_le (negsuc 1099511627775) n) (int_le n (pos 1099511627776)) h in
    (le_tells (negsuc 1099511627775) n parts.0, le_tells n (pos 1099511627776) parts.1)

pub rect_tells : (r : Rect) → is_near_rect r ≡ true → IsNearRect r
rect_tells r h =
    let all = both_true (is_near r.x && is_near r.y) (is_near r.w && is_near r.h) h in
    let places = both_true (is_near r.x) (is_near r.y) all.0 in
    let lengths = both_true (is_near r.w) (is_near r.h) all.1 in
    record {
      left = near_tells r.x places.0;
      top = near_tells r.y places.1;
      width = near_tells r.w lengths.0;
      height = near_tells r.h lengths.1;
    }

pub record AreNear (x y scale : ℤ) (clip : Rect) : Type 0 where
  pub left : IsNear x
  pub top : IsNear y
  pub size : IsNear scale
  pub cut : IsNearRect clip

pub all_tell : (x y scale : ℤ) (clip : Rect) → are_near x y scale clip ≡ true → AreNear x y scale clip
all_tell x y scale clip h =
    let all = both_true (is_near x && is_near y) (is_near scale && is_near_rect clip) h in
    let places = both_true (is_near x) (is_near y) all.0 in
    let rest = both_true (is_near scale) (is_near_rect clip) all.1 in
    record {
      left = near_tells x places.0;
      top = near_tells y places.1;
      size = near_tells scale rest.0;
      cut = rect_tells clip rest.1;
    }

pub bounds_made : (a b : Bounds) → a.min_x ≡ b.min_x → a.min_y ≡ b.min_y → a.max_x ≡ b.max_x → a.max_y ≡ b.max_y → a ≡ b
bounds_made a b left top right bottom =
    let make : ℤ → ℤ → ℤ → ℤ → Bounds = λ l t r o. record { min_x = l; min_y = t; max_x = r; max_y = o } in
    ap (λ l. make l a.min_y a.max_x a.max_y) left
    ∙ (ap (λ t. make b.min_x t a.max_x a.max_y) top
    ∙ (ap (λ r. make b.min_x b.min_y r a.max_y) right
    ∙ ap (λ o. make b.min_x b.min_y b.max_x o) bottom))

-- ---- a box that encloses what cuts another one
low_stays : (a c k : ℤ) → int_le a k ≡ true → int_min a (int_max c k) ≡ a
low_stays a c k h = let p = le_tells a k h in omega (arith, ints, clamps)

high_stays : (a c k : ℤ) → int_le k a ≡ true → int_max a (int_min c k) ≡ a
high_stays a c k h = let p = le_tells k a h in omega (arith, ints, clamps)

hull_stays : (a c k : Bounds) → encloses a k ≡ true → hull a (meet c k) ≡ a
hull_stays a c k h =
    let both = both_true (spans_across a k) (spans_down a k) h in
    let across = both_true (int_le a.min_x k.min_x) (int_le k.max_x a.max_x) both.0 in
    let down = both_true (int_le a.min_y k.min_y) (int_le k.max_y a.max_y) both.1 in
    bounds_made (hull a (meet c k)) a
    (low_stays a.min_x c.min_x k.min_x across.0) (low_stays a.min_y c.min_y k.min_y down.0)
    (high_stays a.max_x c.max_x k.max_x across.1) (high_stays a.max_y c.max_y k.max_y down.1)

same_arms : (t : Bool) (a b : Bounds) → b ≡ a → cond t a b ≡ a
same_arms true a b h = refl
same_arms false a b h = h

pub join_stays : (a c k : Bounds) → is_empty a ≡ false → encloses a k ≡ true → join a (meet c k) ≡ a
join_stays a c k some h = rw some (same_arms (is_empty (meet c k)) a (hull a (meet c k)) (hull_stays a c k h))
