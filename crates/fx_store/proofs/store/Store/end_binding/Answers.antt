use Rattle.fx_store.proofs.KeepLemmas.{kept_unbound, seen_unbound}
use Rattle.fx_store.proofs.store.Store.end_binding.Goals as goal

pub invariant_of-self-2 : goal.invariant_of-self-2
invariant_of-self-2 g c = kept_unbound _ _ _ _ _ _ c.args.name.0 c.in_ok-unbind.ensures.ok c.self.invariant

pub returns-clause-ok : goal.returns-clause-ok
returns-clause-ok g c =
    rw (← c.self.view_is)
    (seen_unbound c.self.inside.graph c.unbind.new.self c.self.inside.pairs c.self.inside.listeners c.self.inside.owners c.args.name.0
    c.in_ok-unbind.ensures.ok)
