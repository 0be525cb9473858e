use Rattle.fx_listen.proofs.Changes.{sound_forgotten_all}
use Rattle.fx_listen.proofs.Listeners.forget_all.Goals as goal

pub invariant_of-self : goal.invariant_of-self
invariant_of-self c = rw c.forget_all.ensures (sound_forgotten_all c.args.names.now _ c.self.invariant)
