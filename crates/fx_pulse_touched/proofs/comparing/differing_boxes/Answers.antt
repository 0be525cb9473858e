use Rattle.std.proofs.Common.{arith, length, ◌<◌}
use Rattle.fx_pulse_touched.proofs.HeadLemmas.{same_key, same_parent}
use Rattle.fx_pulse_touched.proofs.comparing.differing_boxes.Goals as goal

pub has_same_box-requires-clause-key : goal.has_same_box-requires-clause-key
has_same_box-requires-clause-key c =
    let within : c.loop-place.place < length c.args.olds.now =
    omega (arith, c.loop-place-test.true, c.requires.each) in
    same_key c.args.olds.now c.args.nodes.now c.loop-place.place c.index-olds-place.result c.index-nodes-place.result
    c.requires.keys within c.loop-place-test.true c.index-olds-place.is c.index-nodes-place.is

pub has_same_box-requires-clause-parent : goal.has_same_box-requires-clause-parent
has_same_box-requires-clause-parent c =
    let within : c.loop-place.place < length c.args.olds.now =
    omega (arith, c.loop-place-test.true, c.requires.each) in
    same_parent c.args.olds.now c.args.nodes.now c.loop-place.place c.index-olds-place.result
    c.index-nodes-place.result c.requires.parents within c.loop-place-test.true c.index-olds-place.is
    c.index-nodes-place.is
