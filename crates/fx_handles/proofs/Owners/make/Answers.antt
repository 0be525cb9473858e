use Rattle.std.proofs.Common.{ℕ, refl, ◌∙◌, ap}
use Rattle.slab.specs.Slab.{Slab}
use Rattle.fx_handles.proofs.Slots.{owners_in-filled, IsKept-filled, IsSound-owners}
use Rattle.fx_handles.proofs.Owners.make.Goals as goal

pub invariant_of-self-2 : goal.invariant_of-self-2
invariant_of-self-2 c =
    let slot = c.in_ok-slot.ensures in
    IsKept-filled _ _ _ _ c.self.invariant slot.was_vacant slot.updates.changed slot.updates.others slot.len
    (λ e. c.if-len-eq-MOST_LIVING.false (c.len.ensures ∙ e))

pub returns-clause-made : goal.returns-clause-made
returns-clause-made c =
    let slot = c.in_ok-slot.ensures in
    rw (← c.self.view_is, owners_in-filled _ _ _ _ c.self.invariant slot.was_vacant slot.updates.changed slot.updates.others) refl

pub returns-then-len-eq-MOST_LIVING-clause-sound : goal.returns-then-len-eq-MOST_LIVING-clause-sound
returns-then-len-eq-MOST_LIVING-clause-sound c = rw (← c.self.view_is) (IsSound-owners _ _ c.self.invariant)

pub returns-in_err-slot-clause-sound : goal.returns-in_err-slot-clause-sound
returns-in_err-slot-clause-sound c =
    rw (ap (λ (slab : Slab ℕ). slab.slots) c.in_err-slot.ensures.err) (IsSound-owners _ _ c.self.invariant)

pub returns-clause-sound : goal.returns-clause-sound
returns-clause-sound c = IsSound-owners _ _ (invariant_of-self-2 c)
