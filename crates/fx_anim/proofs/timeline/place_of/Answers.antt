use Rattle.fx_anim.proofs.LineLemmas.{put_here}
use Rattle.fx_anim.proofs.timeline.place_of.Goals as goal

pub returns-then-frame-new-2-clause-some : goal.returns-then-frame-new-2-clause-some
returns-then-frame-new-2-clause-some c =
    put_here c.args.new.now c.index-frames-place.result _ c.args.frames.now c.loop-place.place c.loop-place-test.true
    c.index-frames-place.is c.if-frame-new.true c.if-frame-new-2.true c.loop-place.invariant.put
