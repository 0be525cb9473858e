use Rattle.fx_listen.specs.Listening.{is_equal}
use Rattle.fx_listen.proofs.Changes.{sound_removed}
use Rattle.fx_listen.proofs.Listeners.remove_first.Goals as goal

pub invariant_of-self : goal.invariant_of-self
invariant_of-self c =
    let a = c.args in
    rw c.remove_first.ensures.removed (sound_removed (is_equal a.name.0 a.kind a.owner a.tag) _ c.self.invariant)
