use Rattle.std.proofs.Common.{ap, ◌∙◌, ◌+◌}
use Rattle.std.proofs.lemmas.Result.{err_from_is_err_and}
use Rattle.fx_store_model.specs.Causes.{of_listen}
use Rattle.fx_store_model.specs.Making.{new_listener}
use Rattle.fx_store.proofs.KeepLemmas.{kept_added}
use Rattle.fx_store.proofs.UnheardLemmas.{born_living, listen_allowed, seen_added}
use Rattle.fx_store.proofs.store.Store.add_listener.Goals as goal

pub returns-in_err-number-clause-memory : goal.returns-in_err-number-clause-memory
returns-in_err-number-clause-memory c =
    let allowed = listen_allowed c.args.name c.args.owner _ _ c.self.inside.listeners (rw (← c.self.view_is) at c.requires.allowed) in
    let p = err_from_is_err_and c.from_residual.result c.from_residual.ensures.1 in
    rw p.1 (p.2 ∙ ap of_listen (rw allowed.2 at c.in_err-number.ensures.answer))

pub invariant_of-self-2 : goal.invariant_of-self-2
invariant_of-self-2 c =
    let allowed = listen_allowed c.args.name c.args.owner _ _ c.self.inside.listeners (rw (← c.self.view_is) at c.requires.allowed) in
    let read = rw (← c.self.view_is) at c.requires.read in
    kept_added _ _ _ _ _ _ (new_listener (c.self.inside.listeners.given + 1) c.args.name c.args.kind c.args.owner c.args.tag)
    c.in_ok-number.ensures.ok allowed.1 (born_living c.self.inside.owners c.args.owner c.know_births.ensures allowed.1)
    allowed.0 read c.self.invariant

pub returns-clause-ok : goal.returns-clause-ok
returns-clause-ok c =
    let allowed = listen_allowed c.args.name c.args.owner _ _ c.self.inside.listeners (rw (← c.self.view_is) at c.requires.allowed) in
    rw (← c.self.view_is)
    (seen_added c.self.inside.graph c.self.inside.pairs c.self.inside.listeners c.add.new.self c.self.inside.owners
    (new_listener (c.self.inside.listeners.given + 1) c.args.name c.args.kind c.args.owner c.args.tag)
    c.in_ok-number.ensures.ok allowed.1)
