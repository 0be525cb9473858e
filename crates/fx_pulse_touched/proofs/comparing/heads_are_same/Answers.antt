use Rattle.std.proofs.Common.{arith, length, subst, ◌<◌}
use Rattle.std.specs.Prelude.{IsTrue}
use Rattle.fx_pulse_touched.proofs.HeadLemmas.{same_key, same_parent}
use Rattle.fx_pulse_touched.proofs.comparing.heads_are_same.Goals as goal

pub returns-then-not-has_same_head-clause-only : goal.returns-then-not-has_same_head-clause-only
returns-then-not-has_same_head-clause-only c = λ keys parents.
    let k = c.loop-place.place in
    let old = c.index-olds-place.result in
    let node = c.index-nodes-place.result in
    let within : k < length c.args.olds.now = omega (arith, c.loop-place-test.true, c.requires) in
    subst IsTrue c.if-not-has_same_head.true (c.has_same_head.ensures.1 (
      same_key c.args.olds.now c.args.nodes.now k old node keys within c.loop-place-test.true c.index-olds-place.is
          c.index-nodes-place.is,
      same_parent c.args.olds.now c.args.nodes.now k old node parents within c.loop-place-test.true
          c.index-olds-place.is c.index-nodes-place.is,
    ))
