use Rattle.fx_store.proofs.KeepLemmas.{kept_declared}
use Rattle.fx_store.proofs.store.Store.declare.Goals as goal

pub invariant_of-self-2 : goal.invariant_of-self-2
invariant_of-self-2 c =
    kept_declared c.args.kind c.args.read_only c.args.value _ _ _ _ _ _ c.in_ok-name.ensures.ok c.self.invariant
