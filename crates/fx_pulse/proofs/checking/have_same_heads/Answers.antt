use Rattle.std.proofs.Common.{arith, length, subst, ◌<◌}
use Rattle.std.specs.Prelude.{IsTrue}
use Rattle.fx_pulse.proofs.HeadLemmas.{same_key, same_parent}
use Rattle.fx_pulse.proofs.checking.have_same_heads.Goals as goal

pub returns-then-not-has_same_head-clause-only : goal.returns-then-not-has_same_head-clause-only
returns-then-not-has_same_head-clause-only c = λ keys parents.
    let k = c.loop-place.place in
    let style = c.index-styles-place.result in
    let node = c.index-boxes-place.result in
    let within : k < length c.args.styles.now = omega (arith, c.loop-place-test.true, c.requires) in
    subst IsTrue c.if-not-has_same_head.true (c.has_same_head.ensures.1 (
      same_key c.args.styles.now c.args.boxes.now k style node keys within c.loop-place-test.true
          c.index-styles-place.is
          c.index-boxes-place.is,
      same_parent c.args.styles.now c.args.boxes.now k style node parents within c.loop-place-test.true
          c.index-styles-place.is c.index-boxes-place.is,
    ))
