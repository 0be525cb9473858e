use Rattle.std.proofs.Common.{◌+◌, ◌<◌, ◌≤◌, length, get_or, arith}
use Rattle.fx_base.specs.Names.{name_of}
use Rattle.fx_graph_model.specs.Unread.{unmarked}
use Rattle.fx_graph_model.proofs.Flags.{unmarked_most}
use Rattle.fx_graph_model.proofs.MarkSteps.{marks_none, marks_more}
use Rattle.fx_graph_edges.proofs.RowLemmas.{number_at, numbers_more}
use Rattle.fx_graph.proofs.marking.mark_names.Goals as goal

pub loop-name-init : goal.loop-name-init
loop-name-init c = marks_none _ _ _

pub mark_one-end-requires-clause-known : goal.mark_one-end-requires-clause-known
mark_one-end-requires-clause-known c =
    let known = c.requires.known _ (number_at c.args.names.now c.loop-name.name-index (name_of 0) c.loop-name-test.true) in
    omega (arith, known, c.loop-name.invariant.flags)

pub mark_one-end-requires-clause-room : goal.mark_one-end-requires-clause-room
mark_one-end-requires-clause-room c =
    omega (arith, c.requires.room, unmarked_most c.args.flags.now, c.loop-name.invariant.room, c.loop-name.invariant.places)

pub loop-name-preserved : goal.loop-name-preserved
loop-name-preserved c =
    let names = c.args.names.now in
    let i = c.loop-name.name-index in
    let known = c.requires.known _ (number_at names i (name_of 0) c.loop-name-test.true) in
    let here : (get_or names i (name_of 0)).0 < length c.loop-name.flags = omega (arith, known, c.loop-name.invariant.flags) in
    let room : c.loop-name.end + unmarked c.loop-name.flags ≤ length c.loop-name.work =
    omega (arith, c.requires.room, unmarked_most c.args.flags.now, c.loop-name.invariant.room, c.loop-name.invariant.places) in
    rw (numbers_more names i (name_of 0) c.loop-name-test.true, c.mark_one-end.ensures.flags, c.mark_one-end.ensures.work, c.mark_one-end.ensures.count)
    (marks_more _ _ _ _ _ _ _ _ c.loop-name.invariant here room)
