-- The front is blended, and the rest is as it was.
-- What is left gets shorter with each block.
use Rattle.std.proofs.Common.{◌-◌, length, map, take}
use Rattle.fx_base.specs.Pixel.{blended}
use Rattle.fx_lanes.specs.Blending.{packed_color}
use Rattle.fx_lanes.proofs.Rows.{Made}
use Rattle.fx_lanes.proofs.blending.blend_row.Given as goal

abbrev pub invariant-loop-row : goal.invariant-loop-row
invariant-loop-row l = Made l.fn.row l.row (map (blended (packed_color l.fn.color)) (take l.at l.fn.row)) l.at

abbrev pub decreases-loop-row : goal.decreases-loop-row
decreases-loop-row l = length l.row - l.at

abbrev pub invariant-loop-i : goal.invariant-loop-i
invariant-loop-i l = Made l.fn.row l.row (map (blended (packed_color l.fn.color)) (take l.i l.fn.row)) l.i
