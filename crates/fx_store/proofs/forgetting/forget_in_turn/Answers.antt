use Rattle.fx_base.specs.Names.{name_of}
use Rattle.fx_store.proofs.UnheardLemmas.{unheard_start, unheard_turn}
use Rattle.fx_store.proofs.forgetting.forget_in_turn.Goals as goal

pub loop-name-init : goal.loop-name-init
loop-name-init c = unheard_start c.args.listeners.now

pub loop-name-preserved : goal.loop-name-preserved
loop-name-preserved c =
    unheard_turn c.args.listeners.now c.loop-name.listeners c.forget.new.self c.args.names.now c.loop-name.name-index (name_of 0)
    c.loop-name-test.true c.loop-name.invariant c.forget.ensures
