use Rattle.fx_base.specs.Names.{name_of}
use Rattle.fx_store.proofs.WatchLemmas.{ends_turn}
use Rattle.fx_store.proofs.watching.push_ends.Goals as goal

pub loop-pair-preserved : goal.loop-pair-preserved
loop-pair-preserved c =
    ends_turn _ _ _ c.args.pairs.now c.loop-pair.pair-index (name_of 0, name_of 0) c.loop-pair-test.true c.loop-pair.invariant
    c.in_ok-push_two.ensures
