use Rattle.std.proofs.Common.{◌≡◌, List, Some, None, get_or, refl, sym, ◌∙◌, ap}
use Rattle.std.proofs.lemmas.Bool.{both_ways}
use Rattle.fx_handles.specs.declared.Owner.{Owner}
use Rattle.fx_handles.specs.Living.{Register}
use Rattle.fx_handles.proofs.Slots.{owner_held, owners_in-emptied, IsKept-emptied, filter-absent, IsSound-owners}
use Rattle.fx_handles.proofs.Owners.release.Goals as goal

-- the owner that is alive stands in its slot
held : (c : goal.After-try_remove) → get_or c.self.inside.births.slots c.args.owner.slot None ≡ Some c.args.owner.birth
held c =
    owner_held _ c.self.inside.born c.args.owner
    (rw (← c.self.view_is) at (c.is_live.ensures.alive.0 c.if-not-is_live.false))

pub returns-then-not-is_live-clause-released : goal.returns-then-not-is_live-clause-released
returns-then-not-is_live-clause-released c =
    let register : List Owner → Register = λ living. record { living = living; born = c.args.self.now.born } in
    ap register
    (sym
    (filter-absent c.args.self.now.living c.args.owner
    (λ there. both_ways _ c.if-not-is_live.true (c.is_live.ensures.alive.1 there))))

pub invariant_of-self : goal.invariant_of-self
invariant_of-self c =
    let gone = c.try_remove.ensures in
    IsKept-emptied _ _ _ c.args.owner c.self.invariant (held c) gone.updates.changed gone.updates.others
    (rw (gone.value ∙ held c) at gone.len)

pub returns-clause-released : goal.returns-clause-released
returns-clause-released c =
    let gone = c.try_remove.ensures in
    rw (← c.self.view_is, owners_in-emptied _ _ _ c.args.owner c.self.invariant (held c) gone.updates.changed gone.updates.others) refl

pub returns-clause-sound : goal.returns-clause-sound
returns-clause-sound c = IsSound-owners _ _ (invariant_of-self c)
