use Rattle.std.proofs.Common.{ℕ, ap, subst, sym, ◌∙◌, Err}
use Rattle.std.proofs.lemmas.Result.{err_from_is_err_and}
use Rattle.fx_store_model.specs.Stored.{Stored}
use Rattle.fx_graph_model.specs.Uses.{Ranked, unknown_in}
use Rattle.fx_store.proofs.EndLemmas.{MayUnbind, unbind_done, unbind_refused, unbind_short, unbind_unmade}
use Rattle.fx_store.proofs.store.Store.unbind.Goals as goal

pub returns-then-is_unknown-clause-applied : goal.returns-then-is_unknown-clause-applied
returns-then-is_unknown-clause-applied g c =
    unbind_refused c.args.name c.args.self.now c.args.work.now.evaluated
    (ap (λ (s : Stored). unknown_in s.entries c.args.name.0) (sym c.self.view_is) ∙ sym c.is_unknown.ensures ∙ c.if-is_unknown.true)

pub returns-in_err-end_binding-clause-applied : goal.returns-in_err-end_binding-clause-applied
returns-in_err-end_binding-clause-applied g c =
    let p = err_from_is_err_and c.from_residual.result c.from_residual.ensures.1 in
    rw (p.1, p.2)
    (unbind_unmade _ c.args.name c.args.self.now c.end_binding.new.self c.in_err-end_binding.field-0.0 _ _
    (subst (MayUnbind c.args.name) c.self.view_is (sym c.is_unknown.ensures ∙ c.if-is_unknown.false))
    c.in_err-end_binding.ensures.answer (λ e. c.in_err-end_binding.ensures.memory (ap Err e)) c.end_binding.ensures.cost)

pub returns-in_err-catch_up-clause-applied : goal.returns-in_err-catch_up-clause-applied
returns-in_err-catch_up-clause-applied g c =
    let p = err_from_is_err_and c.from_residual-in_err-catch_up.result c.from_residual-in_err-catch_up.ensures.1 in
    rw (p.1, p.2)
    (unbind_short c.args.name c.args.self.now c.end_binding.new.self c.catch_up.new.self _ c.end_binding.new.work.evaluated _
    (subst (MayUnbind c.args.name) c.self.view_is (sym c.is_unknown.ensures ∙ c.if-is_unknown.false))
    c.in_ok-end_binding.ensures.ok c.catch_up.ensures.part c.end_binding.ensures.cost c.catch_up.ensures.cost)

pub returns-clause-applied : goal.returns-clause-applied
returns-clause-applied g c =
    unbind_done c.args.name c.args.self.now c.end_binding.new.self c.catch_up.new.self c.silent.result _
    c.end_binding.new.work.evaluated _
    (subst (λ (s : Stored). (rank : ℕ → ℕ) × Ranked s.entries rank) c.self.view_is c.laws.ensures.ranked)
    (subst (MayUnbind c.args.name) c.self.view_is (sym c.is_unknown.ensures ∙ c.if-is_unknown.false))
    c.in_ok-end_binding.ensures.ok c.in_ok-catch_up.ensures.ok
    (record { added_is = c.silent.ensures.added; invalid = c.silent.ensures.invalid; changed = c.silent.ensures.changed })
    c.end_binding.ensures.cost c.catch_up.ensures.cost
