-- Rectangles whose numbers are small enough to be counted with.
use Rattle.std.specs.Prelude.{ℤ, pos, negsuc, ◌≤ℤ◌}
use Rattle.fx_base.specs.declared.geometry.Rect.{Rect}
use Rattle.fx_base.specs.declared.geometry.Sides.{Sides}

-- no farther from 0 than this
pub record IsWithin (most : ℤ) (least : ℤ) (r : Rect) : Type 0 where
  pub left : least ≤ℤ r.x
  pub right : r.x ≤ℤ most
  pub top : least ≤ℤ r.y
  pub bottom : r.y ≤ℤ most
  pub narrow : least ≤ℤ r.w
  pub wide : r.w ≤ℤ most
  pub low : least ≤ℤ r.h
  pub high : r.h ≤ℤ most

-- each number lies in -10^12 to 10^12
abbrev pub IsNear : Rect → Type 0
IsNear = IsWithin (pos 1000000000000) (negsuc 999999999999)

-- each number lies in -2 * 10^12 to 2 * 10^12
abbrev pub IsNearby : Rect → Type 0
IsNearby = IsWithin (pos 2000000000000) (negsuc 1999999999999)

-- each number lies in -10^13 to 10^13
pub record AreShort (s : Sides) : Type 0 where
  pub least_top : negsuc 9999999999999 ≤ℤ s.top
  pub most_top : s.top ≤ℤ pos 9999999999999
  pub least_right : negsuc 9999999999999 ≤ℤ s.right
  pub most_right : s.right ≤ℤ pos 9999999999999
  pub least_bottom : negsuc 9999999999999 ≤ℤ s.bottom
  pub most_bottom : s.bottom ≤ℤ pos 9999999999999
  pub least_left : negsuc 9999999999999 ≤ℤ s.left
  pub most_left : s.left ≤ℤ pos 9999999999999

-- the content of a node: nothing or more, each way
pub record IsContent (r : Rect) : Type 0 where
  pub near : IsNearby r
  pub across : pos 0 ≤ℤ r.w
  pub down : pos 0 ≤ℤ r.h

-- each length lies in -100,000 to 100,000
pub record AreLimited (s : Sides) : Type 0 where
  pub least_top : negsuc 99999 ≤ℤ s.top
  pub most_top : s.top ≤ℤ pos 100000
  pub least_right : negsuc 99999 ≤ℤ s.right
  pub most_right : s.right ≤ℤ pos 100000
  pub least_bottom : negsuc 99999 ≤ℤ s.bottom
  pub most_bottom : s.bottom ≤ℤ pos 100000
  pub least_left : negsuc 99999 ≤ℤ s.left
  pub most_left : s.left ≤ℤ pos 100000
