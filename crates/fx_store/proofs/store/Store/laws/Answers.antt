use Rattle.fx_store.proofs.StoreLemmas.{all_live, laws_joined, living_sound}
use Rattle.fx_store.proofs.store.Store.laws.Goals as goal

pub returns-clause-flags : goal.returns-clause-flags
returns-clause-flags c = rw (← c.self.view_is) c.laws.ensures.flags

pub returns-clause-closed : goal.returns-clause-closed
returns-clause-closed c = rw (← c.self.view_is) c.laws.ensures.closed

pub returns-clause-acyclic : goal.returns-clause-acyclic
returns-clause-acyclic c = rw (← c.self.view_is) c.laws.ensures.acyclic

pub returns-clause-sound : goal.returns-clause-sound
returns-clause-sound c = rw (← c.self.view_is) c.laws.ensures.sound

pub returns-clause-few : goal.returns-clause-few
returns-clause-few c = rw (← c.self.view_is) c.laws.ensures.few

pub returns-clause-few_pairs : goal.returns-clause-few_pairs
returns-clause-few_pairs c = rw (← c.self.view_is) c.self.invariant.few

pub returns-clause-joined : goal.returns-clause-joined
returns-clause-joined c =
    rw (← c.self.view_is) (laws_joined c.self.inside.graph.entries c.self.inside.pairs c.self.invariant.twins)

pub returns-clause-living : goal.returns-clause-living
returns-clause-living c =
    rw (← c.self.view_is) (all_live c.self.inside.owners.living c.self.inside.listeners.entries)

pub returns-clause-listeners : goal.returns-clause-listeners
returns-clause-listeners c =
    rw (← c.self.view_is) (living_sound c.self.inside.owners.living c.self.inside.listeners c.laws-2.ensures)
