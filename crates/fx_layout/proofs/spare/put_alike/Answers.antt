use Rattle.fx_layout.proofs.Catching.{alike_more, alike_start}
use Rattle.fx_layout.proofs.spare.put_alike.Goals as goal

pub loop-k-init : goal.loop-k-init
loop-k-init c = alike_start c.args.places.now c.args.from.now c.args.to.now.items

pub loop-k-preserved : goal.loop-k-preserved
loop-k-preserved c =
    rw (c.span_at.ensures)
    (alike_more c.args.places.now c.args.from.now c.args.to.now.items c.loop-k.to.items c.loop-k.k _ c.requires.within
    c.loop-k-test.true c.loop-k.invariant)
