use Rattle.std.proofs.lemmas.Result.{err_from_is_err_and}
use Rattle.fx_store.proofs.Answering.{owner_err, owner_ok}
use Rattle.fx_store.proofs.KeepLemmas.{kept_made}
use Rattle.fx_store.proofs.StoreLemmas.{seen_made}
use Rattle.fx_store.proofs.store.Store.make_owner.Goals as goal

pub invariant_of-self-2 : goal.invariant_of-self-2
invariant_of-self-2 c =
    kept_made _ _ _ _ _ c.in_ok-owner.owner _ c.in_ok-owner.ensures.birth c.in_ok-owner.ensures.made c.self.invariant

pub returns-clause-made : goal.returns-clause-made
returns-clause-made c =
    rw (← c.self.view_is)
    (seen_made c.self.inside.graph c.self.inside.pairs c.self.inside.listeners c.self.inside.owners c.make.new.self c.in_ok-owner.owner
    c.self.invariant.born c.in_ok-owner.ensures.birth c.in_ok-owner.ensures.made)

pub returns-in_err-owner-clause-answer : goal.returns-in_err-owner-clause-answer
returns-in_err-owner-clause-answer c =
    let p = err_from_is_err_and c.from_residual.result c.from_residual.ensures.1 in
    rw (p.1, p.2, ← c.self.view_is) (owner_err c.self.inside.owners c.in_err-owner.field-0.0 c.in_err-owner.ensures.full)

pub returns-clause-answer : goal.returns-clause-answer
returns-clause-answer c =
    rw (← c.self.view_is) (owner_ok c.self.inside.owners c.in_ok-owner.owner c.in_ok-owner.ensures.full)
