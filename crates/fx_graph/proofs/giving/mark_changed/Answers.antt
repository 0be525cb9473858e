use Rattle.std.proofs.Common.{arith}
use Rattle.std.proofs.lemmas.List.{take_all}
use Rattle.fx_graph_model.proofs.Changed.{known_within}
use Rattle.fx_graph_model.proofs.Flags.{unmarked_most}
use Rattle.fx_graph_model.proofs.MarkSteps.{marks_none}
use Rattle.fx_graph.specs.Given.{IsBase}
use Rattle.fx_graph.proofs.GivenLemmas.{at_item, changed_more, marks_both}
use Rattle.fx_graph.proofs.giving.mark_changed.Goals as goal

pub loop-pair-init : goal.loop-pair-init
loop-pair-init c = marks_none _ _ _

pub mark_pair-end-requires-clause-known : goal.mark_pair-end-requires-clause-known
mark_pair-end-requires-clause-known c =
    let base = at_item (IsBase c.args.entries.now) _ _ _ c.loop-pair-test.true c.pair-item.is c.requires.base in
    known_within c.args.entries.now c.pair-item.result.0.0 base.0

pub mark_pair-end-requires-clause-base : goal.mark_pair-end-requires-clause-base
mark_pair-end-requires-clause-base c =
    (at_item (IsBase c.args.entries.now) _ _ _ c.loop-pair-test.true c.pair-item.is c.requires.base).1

pub mark_pair-end-requires-clause-room : goal.mark_pair-end-requires-clause-room
mark_pair-end-requires-clause-room c =
    omega (arith, c.loop-pair.invariant.room, c.loop-pair.invariant.places, c.requires.places, c.requires.flags, unmarked_most c.args.unread.now)

pub loop-pair-preserved : goal.loop-pair-preserved
loop-pair-preserved c =
    rw (changed_more c.args.pairs.now c.loop-pair.pair-index c.pair-item.result c.loop-pair-test.true c.pair-item.is c.args.entries.now)
    (marks_both _ _ _ _ _ _ _ _ _ _ _ c.loop-pair.invariant c.mark_pair-end.ensures)

pub returns : goal.returns
returns c =
    rw (take_all c.loop-pair.pair-index c.args.pairs.now c.loop-pair-test.false) at c.loop-pair.invariant
