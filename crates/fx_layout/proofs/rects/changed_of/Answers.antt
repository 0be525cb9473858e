use Rattle.std.proofs.Common.{◌∙◌, ◌<◌, length, arith}
use Rattle.std.proofs.lemmas.List.{length-set}
use Rattle.fx_layout.proofs.Readds.{changed_more}
use Rattle.fx_layout.proofs.rects.changed_of.Goals as goal

pub loop-place-init : goal.loop-place-init
loop-place-init c = (c.in_ok-marks.ensures.each, λ p early free. absurd (omega (arith, early)))

pub loop-place-preserved : goal.loop-place-preserved
loop-place-preserved c =
    let alike = rw (c.rect_at.ensures) at c.stood-changes.ensures.alike in (
      rw (c.put.ensures) (length-set c.loop-place.marks c.loop-place.place _ ∙ c.loop-place.invariant.0),
      rw (c.put.ensures) (changed_more c.args.olds.now c.args.before.now c.args.rects.now c.loop-place.marks
          c.loop-place.place _ c.stood-changes.result c.loop-place-test.true c.loop-place.invariant.0
          c.stood-changes.ensures.there alike c.loop-place.invariant.1),
    )
