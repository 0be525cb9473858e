use Rattle.fx_style.proofs.ChangeLemmas.{changes_more}
use Rattle.fx_style.proofs.putting.changed_places.Goals as goal

pub loop-one-preserved : goal.loop-one-preserved
loop-one-preserved c =
    changes_more c.args.looks.now c.args.fresh.now c.loop-one.one-index c.one-item.result c.loop-one.places.items
    c.push_change.new.places.items c.loop-one-test.true c.one-item.is c.loop-one.invariant c.in_ok-push_change.ensures
