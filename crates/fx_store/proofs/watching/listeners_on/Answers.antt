use Rattle.fx_base.specs.Names.{name_of}
use Rattle.fx_store.proofs.TellLemmas.{heard_turn}
use Rattle.fx_store.proofs.watching.listeners_on.Goals as goal

pub loop-name-preserved : goal.loop-name-preserved
loop-name-preserved c =
    heard_turn c.args.kind c.args.owners.now.living c.args.listeners.now.entries c.args.names.now c.loop-name.name-index (name_of 0)
    c.loop-name.heard.items c.push_listeners.new.heard.items c.in_ok-told.told.items c.as_slice.result.now
    c.loop-name-test.true c.loop-name.invariant c.in_ok-told.ensures c.as_slice.ensures.value c.in_ok-push_listeners.ensures
