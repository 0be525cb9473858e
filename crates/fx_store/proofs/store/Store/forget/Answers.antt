use Rattle.std.proofs.Common.{◌≡◌, List, subst, Ok}
use Rattle.std.proofs.lemmas.Result.{err_from_is_err_and}
use Rattle.fx_base.specs.declared.keys.Name.{Name}
use Rattle.fx_store_model.specs.Making.{made_forget}
use Rattle.fx_store_model.specs.Refusals.{IsForgetAnswer}
use Rattle.fx_base.specs.Names.{numbers}
use Rattle.fx_store.proofs.EndLemmas.{forget_done, forget_short}
use Rattle.fx_store.proofs.store.Store.forget.Goals as goal

pub returns-in_err-catch_up-clause-applied : goal.returns-in_err-catch_up-clause-applied
returns-in_err-catch_up-clause-applied g c =
    let p = err_from_is_err_and c.from_residual-in_err-catch_up.result c.from_residual-in_err-catch_up.ensures.1 in
    rw (p.1, p.2)
    (forget_short c.args.names c.args.self.now c.take_away.new.self c.catch_up.new.self _ _
    (subst (λ (names : List Name). IsForgetAnswer {T = Unit {0}} names c.args.self.now.entries (Ok tt)) c.into_vec.ensures
    c.in_ok-take_away.ensures.answer)
    (subst (λ (names : List Name). c.take_away.new.self ≡ made_forget (numbers names) c.args.self.now) c.into_vec.ensures
    c.in_ok-take_away.ensures.ok)
    c.catch_up.ensures.part c.catch_up.ensures.cost)

pub returns-clause-applied : goal.returns-clause-applied
returns-clause-applied g c =
    forget_done c.args.names c.args.self.now c.take_away.new.self c.catch_up.new.self c.silent.result _ _
    (subst (λ (names : List Name). IsForgetAnswer names c.args.self.now.entries (Ok c.silent.result)) c.into_vec.ensures
    c.in_ok-take_away.ensures.answer)
    (subst (λ (names : List Name). c.take_away.new.self ≡ made_forget (numbers names) c.args.self.now) c.into_vec.ensures
    c.in_ok-take_away.ensures.ok)
    c.in_ok-catch_up.ensures.ok
    (record { added_is = c.silent.ensures.added; invalid = c.silent.ensures.invalid; changed = c.silent.ensures.changed })
    c.catch_up.ensures.cost
