use Rattle.fx_layout_sweeps.proofs.Spreads.{put_start, put_more, put_all}
use Rattle.fx_layout_sweeps.proofs.placing.put_spans.Goals as goal

pub loop-k-init : goal.loop-k-init
loop-k-init c = put_start c.args.places.now c.args.found.now c.args.spans.now.items

pub loop-k-preserved : goal.loop-k-preserved
loop-k-preserved c =
    put_more c.args.places.now c.args.found.now c.args.spans.now.items c.loop-k.spans.items c.loop-k.k _ c.span_at.result
    c.requires.within c.requires.apart c.loop-k-test.true c.loop-k.invariant c.span_at.ensures

pub returns : goal.returns
returns c =
    put_all c.args.places.now c.args.found.now c.args.spans.now.items c.loop-k.spans.items c.loop-k.k c.loop-k-test.false
    c.loop-k.invariant
