-- Boxes that lie in a window, so their numbers can be counted with.
use Rattle.std.specs.Prelude.{pos, ◌≤ℤ◌}
use Rattle.fx_picture.specs.declared.edges.Bounds.{Bounds}

pub record IsInWindow (b : Bounds) : Type 0 where
  pub left : pos 0 ≤ℤ b.min_x
  pub top : pos 0 ≤ℤ b.min_y
  pub across : b.min_x ≤ℤ b.max_x
  pub down : b.min_y ≤ℤ b.max_y
  pub right : b.max_x ≤ℤ pos 4294967295
  pub bottom : b.max_y ≤ℤ pos 4294967295
