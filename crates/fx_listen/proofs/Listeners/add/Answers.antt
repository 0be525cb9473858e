use Rattle.std.proofs.Common.{refl}
use Rattle.fx_listen.proofs.Changes.{sound_added}
use Rattle.fx_listen.proofs.Listeners.add.Goals as goal

pub invariant_of-self-2 : goal.invariant_of-self-2
invariant_of-self-2 c =
    rw c.in_ok-add.ensures.ok (sound_added c.args.owners.now.living _ _ refl c.self.invariant)
