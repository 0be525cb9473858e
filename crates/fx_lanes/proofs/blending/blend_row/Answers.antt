-- A block more, and a place more, is blended.
-- The rest of the row stays.
use Rattle.std.proofs.Common.{◌+◌, ◌≤◌, ◌<◌, length, arith}
use Rattle.fx_lanes.proofs.Blocks.{blended_more, blended_next}
use Rattle.fx_lanes.proofs.blending.blend_row.Goals as goal

pub loop-row-preserved : goal.loop-row-preserved
loop-row-preserved c =
    let within = c.loop-row.invariant.within in
    let room : c.loop-row.at + 4 ≤ length c.args.row.now = omega arith in
    blended_more c.args.row.now c.loop-row.row c.loop-row.at c.args.color c.spread-over.result c.blended_block-lanes.result c.loop-row.invariant room c.spread-over.ensures.value c.blended_block-lanes.ensures

pub loop-i-preserved : goal.loop-i-preserved
loop-i-preserved c =
    let here : c.loop-i.i < length c.args.row.now = omega arith in
    blended_next c.args.row.now c.loop-i.row c.loop-i.i c.args.color c.blended_pixel.result c.loop-i.invariant here c.blended_pixel.ensures
