use Rattle.fx_store.proofs.KeepLemmas.{kept_removed}
use Rattle.fx_store.proofs.UnheardLemmas.{seen_removed}
use Rattle.fx_store.proofs.store.Store.end_listener.Goals as goal

pub invariant_of-self : goal.invariant_of-self
invariant_of-self c =
    kept_removed _ _ _ _ _ _ c.args.name.0 c.args.kind c.args.owner c.args.tag c.remove_first.ensures.removed c.self.invariant

pub returns : goal.returns
returns c =
    rw (← c.self.view_is)
    (seen_removed c.self.inside.graph c.self.inside.pairs c.self.inside.listeners c.remove_first.new.self c.self.inside.owners
    c.args.name.0 c.args.kind c.args.owner c.args.tag c.remove_first.ensures.removed)
