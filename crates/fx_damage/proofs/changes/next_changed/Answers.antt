-- one place more
use Rattle.std.proofs.Common.{◌∙◌, [], arith, refl, sym}
use Rattle.fx_damage.proofs.ChangeLemmas.{nows_more, olds_more}
use Rattle.fx_damage.proofs.changes.next_changed.Goals as goal

pub loop-place-preserved : goal.loop-place-preserved
loop-place-preserved c =
    let i = c.loop-place.place in
    let before = c.args.before.now in
    let after = c.args.after.now in
    let test = c.loop-place-test.true in
    let both = c.min-both.ensures in
    let kept = sym c.is_kept.ensures ∙ c.if-not-is_kept.false in
    let e = c.index-before-place.result in
    let f = c.index-after-place.result in (
      olds_more [] [] before after i e f (omega arith) (omega arith) c.index-before-place.is c.index-after-place.is (rw kept refl)
          ∙ c.loop-place.invariant.0,
      nows_more [] [] before after i e f (omega arith) (omega arith) c.index-before-place.is c.index-after-place.is (rw kept refl)
          ∙ c.loop-place.invariant.1,
    )
