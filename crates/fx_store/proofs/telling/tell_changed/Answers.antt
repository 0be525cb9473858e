use Rattle.fx_store.proofs.TellLemmas.{changed_turn}
use Rattle.fx_store.proofs.telling.tell_changed.Goals as goal

pub loop-place-preserved : goal.loop-place-preserved
loop-place-preserved c =
    changed_turn c.args.graph.now.entries c.args.heard.now c.args.before.now c.loop-place.place _ c.index-before-place.result
    c.value_in-after.result.now c.loop-place.notices.items c.push_changed.new.notices.items c.loop-place-test.true
    c.index-before-place.is c.value_in-after.ensures c.loop-place.invariant c.in_ok-push_changed.ensures
