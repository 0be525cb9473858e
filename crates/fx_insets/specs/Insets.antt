-- The insets of a node by its look: its padding and its border layers (JavaFX 21 API, Region.getInsets).
-- Cited by what lays a node out and by what draws it.
use Rattle.std.specs.Prelude.{ℕ, ℤ, pos, negsuc, ◌≤ℤ◌, ◌+ℤ◌, ◌-◌, List, length, map, min, slice_index_or, fold, unwrap_or, Option, Some, None}
use Rattle.std.specs.Int.{int_max}
use Rattle.std.specs.List.{range_with_len}
use Rattle.fx_base.specs.declared.geometry.Sides.{Sides}
use Rattle.fx_look.specs.declared.looks.Look.{Look}
use Rattle.fx_insets.specs.declared.insets.Side.{Side}
use Rattle.fx_insets.specs.declared.insets.Side.TheVariants.{Top, Right, Bottom, Left}
use Rattle.fx_panes_parts.specs.Lengths.{length_of, pixels, place_of}

-- the number of a side
abbrev pub on : Side → Sides → ℤ
on Top sides = sides.top
on Right sides = sides.right
on Bottom sides = sides.bottom
on Left sides = sides.left

-- no length on any side
abbrev pub no_sides : Sides
no_sides = record { top = pos 0; right = pos 0; bottom = pos 0; left = pos 0 }

-- the numbers of a layer; where there are too few, the last ones count again
abbrev pub layer_at : List Sides → ℕ → Sides
layer_at layers i = slice_index_or layers (min i (length layers - 1)) no_sides

-- a number is as far from 0 at most as a layer of the border ends
abbrev pub IsReach : ℤ → Type 0
IsReach n = (negsuc 99999 ≤ℤ n) × (n ≤ℤ pos 200000)

-- where a layer of the border ends on a side, from the node's edge inwards
unfoldable pub border_end : Side → Look → ℕ → ℤ
border_end side look i =
    pos (length_of (on side (layer_at look.border_width i))) +ℤ place_of (on side (layer_at look.border_insets i))

-- the greater of a number and the greatest so far
abbrev pub greater : Option ℤ → ℤ → Option ℤ
greater None n = Some n
greater (Some best) n = Some (int_max best n)

-- where the border ends that goes farthest inwards, each colour being a layer; 0 where there is none
unfoldable pub border_reach : Side → Look → ℤ
border_reach side look =
    unwrap_or (fold greater None (map (border_end side look) (range_with_len 0 (length look.border_color)))) (pos 0)

-- the padding and the border
unfoldable pub inset_on : Side → Look → ℕ
inset_on side look = length_of (border_reach side look +ℤ pos (length_of (on side look.padding)))

abbrev pub insets_of : Look → Sides
insets_of look = record {
  top = pixels (inset_on Top look);
  right = pixels (inset_on Right look);
  bottom = pixels (inset_on Bottom look);
  left = pixels (inset_on Left look);
}
