use Rattle.fx_layout.proofs.Shifts.{rects_more}
use Rattle.fx_layout.proofs.rects.rects_of.Goals as goal

pub loop-place-preserved : goal.loop-place-preserved
loop-place-preserved c =
    let made = rw (
      c.around-outer.ensures,
      c.as_slice.ensures.value,
      c.parent_at.ensures,
      c.span_at.ensures,
      c.span_at-in-loop-place.ensures,
    ) at c.shifted.ensures in
    rw (c.in_ok-push.ensures.items)
    (rects_more c.args.nodes.now c.args.across.now c.args.down.now c.loop-place.rects.items c.loop-place.place
    c.requires.tree c.loop-place-test.true c.loop-place.invariant c.shifted.result made)
