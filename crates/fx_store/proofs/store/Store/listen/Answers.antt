use Rattle.std.proofs.Common.{◌≡◌, ap, subst, sym, Some, Err}
use Rattle.std.proofs.lemmas.Result.{err_from_is_err_and}
use Rattle.fx_store_model.specs.Refusals.{listen_refusal}
use Rattle.fx_store_model.specs.Stored.{Stored}
use Rattle.fx_store.proofs.EndLemmas.{MayListen, listen_done, listen_refused, listen_short, listen_unmade, listen_unread, listened_off}
use Rattle.fx_store.proofs.store.Store.listen.Goals as goal

pub returns-in-Some-clause-applied : goal.returns-in-Some-clause-applied
returns-in-Some-clause-applied g c =
    listen_refused c.args.name c.args.kind c.args.owner c.args.tag c.args.self.now c.in-Some.refusal c.args.work.now.evaluated
    (subst
    (λ (s : Stored). Some c.in-Some.refusal ≡ listen_refusal c.args.name c.args.owner s.entries s.owners.living s.listeners s.given)
    c.self.view_is c.in-Some.ensures)

pub returns-in_err-read-clause-applied : goal.returns-in_err-read-clause-applied
returns-in_err-read-clause-applied g c =
    let may = subst (λ (s : Stored). MayListen c.args.name c.args.owner s) c.self.view_is (sym c.in_default.ensures) in
    let p = err_from_is_err_and c.from_residual.result c.from_residual.ensures.1 in
    rw (p.1, p.2)
    (listen_unread _ c.args.name c.args.kind c.args.owner c.args.tag c.args.self.now c.read.new.self c.in_err-read.field-0.0 _ _ may
    c.in_err-read.ensures.answer (λ e. c.in_err-read.ensures.memory (ap Err e)) c.read.ensures.cost)

pub add_listener-requires-clause-read : goal.add_listener-requires-clause-read
add_listener-requires-clause-read g c = listened_off c.args.name.0 c.args.self.now c.read.new.self c.in_ok-read.ensures.ok

pub returns-in_err-number-clause-applied : goal.returns-in_err-number-clause-applied
returns-in_err-number-clause-applied g c =
    let may = subst (λ (s : Stored). MayListen c.args.name c.args.owner s) c.self.view_is (sym c.in_default.ensures) in
    let p = err_from_is_err_and c.from_residual-in_err-number.result c.from_residual-in_err-number.ensures.1 in
    rw (p.1, p.2)
    (listen_unmade c.args.name c.args.kind c.args.owner c.args.tag c.args.self.now c.read.new.self c.add_listener.new.self
    c.in_err-number.field-0.0 _ _ may c.in_err-number.ensures.memory c.in_ok-read.ensures.ok c.in_err-number.ensures.err c.read.ensures.cost)

pub returns-in_err-catch_up-clause-applied : goal.returns-in_err-catch_up-clause-applied
returns-in_err-catch_up-clause-applied g c =
    let may = subst (λ (s : Stored). MayListen c.args.name c.args.owner s) c.self.view_is (sym c.in_default.ensures) in
    let p = err_from_is_err_and c.from_residual-in_err-catch_up.result c.from_residual-in_err-catch_up.ensures.1 in
    rw (p.1, p.2)
    (listen_short c.args.name c.args.kind c.args.owner c.args.tag c.args.self.now c.read.new.self c.add_listener.new.self
    c.catch_up.new.self _ c.read.new.work.evaluated _ may c.in_ok-read.ensures.ok c.in_ok-number.ensures.ok c.catch_up.ensures.part
    c.read.ensures.cost c.catch_up.ensures.cost)

pub returns-clause-applied : goal.returns-clause-applied
returns-clause-applied g c =
    let may = subst (λ (s : Stored). MayListen c.args.name c.args.owner s) c.self.view_is (sym c.in_default.ensures) in
    listen_done c.args.name c.args.kind c.args.owner c.args.tag c.args.self.now c.read.new.self c.add_listener.new.self
    c.catch_up.new.self c.silent.result c.in_ok-number.number _ c.read.new.work.evaluated _ may c.in_ok-read.ensures.ok
    c.in_ok-number.ensures.number c.in_ok-number.ensures.ok c.in_ok-catch_up.ensures.ok
    (record { added_is = c.silent.ensures.added; invalid = c.silent.ensures.invalid; changed = c.silent.ensures.changed })
    c.read.ensures.cost c.catch_up.ensures.cost
