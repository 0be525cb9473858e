use Rattle.fx_base.specs.Names.{numbers}
use Rattle.fx_store.proofs.KeepLemmas.{kept_forgotten, seen_forgotten}
use Rattle.fx_store.proofs.store.Store.take_away.Goals as goal

pub invariant_of-self-2 : goal.invariant_of-self-2
invariant_of-self-2 c =
    kept_forgotten _ _ _ _ _ _ _ _ (numbers c.args.names.items) (rw c.as_slice.ensures.value at c.in_ok-forget.ensures.ok) c.forget_parts.ensures.pairs
    c.forget_parts.ensures.listeners c.self.invariant

pub returns-clause-answer : goal.returns-clause-answer
returns-clause-answer c = rw (← c.self.view_is) (rw c.as_slice.ensures.value at c.in_ok-forget.ensures.answer)

pub returns-clause-ok : goal.returns-clause-ok
returns-clause-ok c =
    rw (← c.self.view_is)
    (seen_forgotten c.self.inside.graph c.forget.new.self c.self.inside.pairs c.forget_parts.new.pairs c.self.inside.listeners
    c.forget_parts.new.listeners c.self.inside.owners (numbers c.args.names.items)
    (rw c.as_slice.ensures.value at c.in_ok-forget.ensures.ok) c.forget_parts.ensures.pairs c.forget_parts.ensures.listeners)
