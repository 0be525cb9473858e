use Rattle.fx_store.proofs.KeepLemmas.{kept_unpaired}
use Rattle.fx_store.proofs.store.Store.end_pair.Goals as goal

pub invariant_of-self : goal.invariant_of-self
invariant_of-self c =
    kept_unpaired _ _ _ _ _ _ c.args.one.0 c.args.other.0 c.remove_first.ensures c.self.invariant
