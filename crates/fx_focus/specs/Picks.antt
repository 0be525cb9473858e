-- The node under a point of the last picture.
use Rattle.std.specs.Prelude.{ℤ, int_le, int_lt, Bool, ◌&&◌, not, List, reverse, Option}
use Rattle.std.specs.List.{find}
use Rattle.std.specs.Option.{option_map}
use Rattle.fx_base.specs.declared.geometry.Rect.{Rect}
use Rattle.fx_base.specs.declared.keys.NodeKey.{NodeKey}
use Rattle.fx_tree.specs.Scene.{Scene}
use Rattle.fx_picture.specs.Bounds.{bounds_of}
use Rattle.fx_picture.specs.declared.edges.Bounds.{Bounds}
use Rattle.fx_picture.specs.declared.entries.Entry.{Entry}
use Rattle.fx_focus.specs.Attached.{is_attached}

-- from its first column and row on, and before those behind its last
abbrev pub is_inside : Bounds → ℤ → ℤ → Bool
is_inside b x y = (int_le b.min_x x && int_lt x b.max_x) && (int_le b.min_y y && int_lt y b.max_y)

abbrev pub holds : Rect → ℤ → ℤ → Bool
holds rect x y = is_inside (bounds_of rect) x y

abbrev pub is_hit : Scene → ℤ → ℤ → Entry → Bool
is_hit scene x y entry = (holds entry.rect x y && not entry.disabled) && is_attached scene entry.key

-- the last of these that is hit
abbrev pub pick : Scene → List Entry → ℤ → ℤ → Option NodeKey
pick scene entries x y = option_map (λ entry. entry.key) (find (is_hit scene x y) (reverse entries))
