use Rattle.std.proofs.Common.{◌==◌, ◌∙◌}
use Rattle.fx_listen.specs.declared.entries.Listener.{Listener}
use Rattle.fx_store.proofs.StoreLemmas.{any_living}
use Rattle.fx_store.proofs.store.Store.is_listening.Goals as goal

pub returns : goal.returns
returns c =
    rw (← c.self.view_is)
    (c.is_listening.ensures
    ∙ any_living (λ (listener : Listener). listener.number == c.args.number) c.self.inside.owners.living c.self.inside.listeners.entries)
