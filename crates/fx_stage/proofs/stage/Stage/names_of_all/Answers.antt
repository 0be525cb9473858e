use Rattle.fx_stage.proofs.DroppingLemmas.{keys_pushed}
use Rattle.fx_stage.proofs.stage.Stage.names_of_all.Goals as goal

pub loop-key-preserved : goal.loop-key-preserved
loop-key-preserved c =
    keys_pushed c.args.self.now.graph.table c.args.keys.now c.loop-key.key-index _ c.loop-key.names.items c.push_names.new.names.items
    c.loop-key-test.true c.in_ok-push_names.ensures c.loop-key.invariant
