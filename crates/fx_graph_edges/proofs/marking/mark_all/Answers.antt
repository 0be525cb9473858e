use Rattle.std.proofs.Common.{◌+◌, ◌<◌, ◌≤◌, length, get_or, arith}
use Rattle.std.proofs.lemmas.List.{take_more}
use Rattle.fx_graph_model.specs.Unread.{unmarked}
use Rattle.fx_graph_model.proofs.MarkSteps.{marks_none, marks_more}
use Rattle.fx_graph_edges.proofs.marking.mark_all.Goals as goal

pub loop-name-init : goal.loop-name-init
loop-name-init c = marks_none _ _ _

pub mark_one-end-requires-clause-room : goal.mark_one-end-requires-clause-room
mark_one-end-requires-clause-room c =
    omega (arith, c.requires.room, c.loop-name.invariant.room, c.loop-name.invariant.places)

pub loop-name-preserved : goal.loop-name-preserved
loop-name-preserved c =
    let known : get_or c.args.names.now c.loop-name.name-index 0 < length c.loop-name.unread =
    omega (arith, c.requires.known c.loop-name.name-index 0 c.loop-name-test.true, c.loop-name.invariant.flags) in
    let room : c.loop-name.end + unmarked c.loop-name.unread ≤ length c.loop-name.work =
    omega (arith, c.requires.room, c.loop-name.invariant.room, c.loop-name.invariant.places) in
    rw (take_more c.args.names.now c.loop-name.name-index 0 c.loop-name-test.true, c.mark_one-end.ensures.flags, c.mark_one-end.ensures.work, c.mark_one-end.ensures.count)
    (marks_more _ _ _ _ _ _ _ _ c.loop-name.invariant known room)
