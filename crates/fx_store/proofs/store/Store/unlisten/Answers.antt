use Rattle.std.proofs.Common.{◌≡◌, Some, None, subst}
use Rattle.std.proofs.lemmas.Result.{err_from_is_err_and}
use Rattle.fx_store_model.specs.Refusals.{unlisten_refusal}
use Rattle.fx_store_model.specs.Stored.{Stored}
use Rattle.fx_store.proofs.EndLemmas.{unlisten_done, unlisten_refused, unlisten_short}
use Rattle.fx_store.proofs.store.Store.unlisten.Goals as goal

pub returns-in-Some-clause-applied : goal.returns-in-Some-clause-applied
returns-in-Some-clause-applied g c =
    unlisten_refused c.args.name c.args.kind c.args.owner c.args.tag c.args.self.now c.in-Some.refusal c.args.work.now.evaluated
    (subst (λ (s : Stored). Some c.in-Some.refusal ≡ unlisten_refusal c.args.name c.args.owner s.entries s.owners.living) c.self.view_is
    c.in-Some.ensures)

pub returns-in_err-catch_up-clause-applied : goal.returns-in_err-catch_up-clause-applied
returns-in_err-catch_up-clause-applied g c =
    let p = err_from_is_err_and c.from_residual.result c.from_residual.ensures.1 in
    rw (p.1, p.2)
    (unlisten_short c.args.name c.args.kind c.args.owner c.args.tag c.args.self.now c.end_listener.new.self c.catch_up.new.self _ _
    (subst (λ (s : Stored). None ≡ unlisten_refusal c.args.name c.args.owner s.entries s.owners.living) c.self.view_is
    c.in_default.ensures)
    c.end_listener.ensures c.catch_up.ensures.part c.catch_up.ensures.cost)

pub returns-clause-applied : goal.returns-clause-applied
returns-clause-applied g c =
    unlisten_done c.args.name c.args.kind c.args.owner c.args.tag c.args.self.now c.end_listener.new.self c.catch_up.new.self
    c.silent.result _ _
    (subst (λ (s : Stored). None ≡ unlisten_refusal c.args.name c.args.owner s.entries s.owners.living) c.self.view_is
    c.in_default.ensures)
    c.end_listener.ensures c.in_ok-catch_up.ensures.ok
    (record { added_is = c.silent.ensures.added; invalid = c.silent.ensures.invalid; changed = c.silent.ensures.changed })
    c.catch_up.ensures.cost
