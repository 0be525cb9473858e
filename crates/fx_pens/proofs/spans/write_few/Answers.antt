-- A block more of the colour, and the last one.
use Rattle.std.proofs.Common.{◌+◌, ◌≤◌, length, refl, arith}
use Rattle.std.proofs.lemmas.List.{replicate-append-replicate}
use Rattle.fx_lanes.proofs.Rows.{made_block, made_as}
use Rattle.fx_pens.proofs.SpanLemmas.{made_behind}
use Rattle.fx_pens.proofs.spans.write_few.Goals as goal

pub loop-at-preserved : goal.loop-at-preserved
loop-at-preserved c =
    let within = c.loop-at.invariant.within in
    let room : c.loop-at.at + 4 ≤ length c.args.row.now = omega arith in
    made_as _ _ _ _ _ (replicate-append-replicate c.loop-at.at 4 c.args.color) (made_block _ _ _ _ _ 4 c.loop-at.invariant refl room)

pub returns : goal.returns
returns c =
    let room : 4 ≤ length c.args.row.now = omega arith in
    made_behind c.args.row.now c.loop-at.row c.args.color c.loop-at.at 4 room (omega arith) c.loop-at.invariant
