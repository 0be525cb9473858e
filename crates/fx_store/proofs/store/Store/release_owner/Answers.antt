use Rattle.fx_store.proofs.KeepLemmas.{kept_released}
use Rattle.fx_store.proofs.StoreLemmas.{seen_released}
use Rattle.fx_store.proofs.store.Store.release_owner.Goals as goal

pub invariant_of-self : goal.invariant_of-self
invariant_of-self c = kept_released _ _ _ _ _ c.args.owner _ c.release.ensures.released c.self.invariant

pub returns-clause-released : goal.returns-clause-released
returns-clause-released c =
    rw (← c.self.view_is)
    (seen_released c.self.inside.graph c.self.inside.pairs c.self.inside.listeners c.self.inside.owners c.release.new.self c.args.owner
    c.release.ensures.released)
