use Rattle.fx_listen.proofs.Changes.{sound_forgotten}
use Rattle.fx_listen.proofs.Listeners.forget.Goals as goal

pub invariant_of-self : goal.invariant_of-self
invariant_of-self c = rw c.forget.ensures (sound_forgotten c.args.name.0 _ c.self.invariant)
