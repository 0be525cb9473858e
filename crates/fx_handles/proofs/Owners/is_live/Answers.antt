use Rattle.std.proofs.lemmas.Bool.{false≢true}
use Rattle.fx_handles.proofs.Slots.{is_live-Some, is_live-None, IsSound-owners}
use Rattle.fx_handles.proofs.Owners.is_live.Goals as goal

pub returns-in-Some-clause-alive : goal.returns-in-Some-clause-alive
returns-in-Some-clause-alive c = rw (← c.self.view_is) (is_live-Some _ _ _ c.args.owner c.self.invariant c.in-Some.ensures)

pub returns-in-Some-clause-sound : goal.returns-in-Some-clause-sound
returns-in-Some-clause-sound c = rw (← c.self.view_is) (IsSound-owners _ _ c.self.invariant)

pub returns-in-None-clause-alive : goal.returns-in-None-clause-alive
returns-in-None-clause-alive c =
    rw (← c.self.view_is)
    (λ e. absurd (false≢true e), λ there. absurd (is_live-None _ _ c.args.owner c.in-None.ensures there))

pub returns-in-None-clause-sound : goal.returns-in-None-clause-sound
returns-in-None-clause-sound c = rw (← c.self.view_is) (IsSound-owners _ _ c.self.invariant)
