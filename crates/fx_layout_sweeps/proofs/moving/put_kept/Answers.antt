use Rattle.std.proofs.Common.{map}
use Rattle.fx_layout_sweeps.specs.Nodes.{span_at}
use Rattle.fx_layout_sweeps.proofs.Spreads.{put_start, put_more, put_all}
use Rattle.fx_layout_sweeps.proofs.moving.put_kept.Goals as goal

pub loop-k-init : goal.loop-k-init
loop-k-init c = put_start c.args.places.now (map (span_at c.args.old.now) c.args.old_places.now) c.args.spans.now.items

pub loop-k-preserved : goal.loop-k-preserved
loop-k-preserved c = put_more c.args.places.now (map (span_at c.args.old.now) c.args.old_places.now) c.args.spans.now.items c.loop-k.spans.items c.loop-k.k _ c.kept_at.result
    c.requires.within c.requires.apart c.loop-k-test.true c.loop-k.invariant c.kept_at.ensures

pub returns : goal.returns
returns c = put_all c.args.places.now (map (span_at c.args.old.now) c.args.old_places.now) c.args.spans.now.items c.loop-k.spans.items c.loop-k.k c.loop-k-test.false c.loop-k.invariant
