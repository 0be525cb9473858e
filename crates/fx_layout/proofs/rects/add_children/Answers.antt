use Rattle.fx_layout.proofs.Readds.{added_more, added_start}
use Rattle.fx_layout.proofs.rects.add_children.Goals as goal

pub loop-k-init : goal.loop-k-init
loop-k-init c =
    added_start c.args.places.now c.args.outer c.args.halves.across.now c.args.halves.down.now c.args.marks.now
    c.args.rects.now.items

pub loop-k-preserved : goal.loop-k-preserved
loop-k-preserved c =
    let made = rw (c.span_at.ensures, c.span_at-in-loop-k.ensures) at c.shifted-rect.ensures in
    rw (c.put_rect.ensures.rects)
    (added_more c.args.places.now c.args.outer c.args.halves.across.now c.args.halves.down.now c.args.marks.now
    c.args.rects.now.items c.loop-k.marks c.put_rect.new.marks c.loop-k.rects.items c.loop-k.k _ c.shifted-rect.result
    c.requires.within c.requires.apart c.loop-k-test.true c.loop-k.invariant made c.put_rect.ensures.each_mark
    (rw (c.put_rect.ensures.rects) at c.put_rect.ensures.marks))
