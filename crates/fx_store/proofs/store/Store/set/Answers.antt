use Rattle.std.proofs.Common.{◌≡◌, true, [], ◌∷◌, None, arith, refl, sym, subst, ◌∙◌}
use Rattle.std.proofs.lemmas.Result.{err_from_is_err_and}
use Rattle.fx_store_model.specs.Stored.{Stored}
use Rattle.fx_graph_model.specs.Eager.{eager}
use Rattle.fx_graph_model.specs.Equality.{same_value}
use Rattle.fx_graph_model.specs.Refusals.{set_refusal}
use Rattle.fx_store.specs.Groups.{AreJoinedWith}
use Rattle.fx_store.proofs.Alone.{alone_joined}
use Rattle.fx_store.proofs.Stepping.{step_unmade}
use Rattle.fx_store.proofs.Twins.{set_settable}
use Rattle.fx_store.proofs.UnderLemmas.{allowed_set, not_some, refused_set}
use Rattle.fx_store.proofs.store.Store.set.Goals as goal

pub returns-in-Some-clause-applied : goal.returns-in-Some-clause-applied
returns-in-Some-clause-applied g c =
    refused_set c.self.inside.graph c.self.inside.pairs c.self.inside.listeners c.self.inside.owners
    c.self.inside.behind c.args.self.now
    c.args.name c.args.value c.in-Some.refusal c.from.result c.args.work.now.evaluated c.self.view_is
    (sym c.refuses_set.ensures ∙ c.in-Some.is) c.from.ensures

pub has_value-requires : goal.has_value-requires
has_value-requires g c =
    (set_settable c.self.inside.graph.entries c.args.name c.args.value
    (sym c.refuses_set.ensures ∙ not_some c.refuses_set.result c.in_default.not-Some)).free

pub set_again-requires-clause-allowed : goal.set_again-requires-clause-allowed
set_again-requires-clause-allowed g c =
    subst (λ (stored : Stored). set_refusal ((c.args.name, c.args.value) ∷ []) stored.entries ≡ None) c.self.view_is
    (sym c.refuses_set.ensures ∙ not_some c.refuses_set.result c.in_default.not-Some)

pub set_again-requires-clause-same : goal.set_again-requires-clause-same
set_again-requires-clause-same g c =
    subst (λ (stored : Stored). same_value (eager stored.entries c.args.name.0) c.args.value ≡ true) c.self.view_is
    (sym c.has_value.ensures ∙ c.if-has_value.true)

pub returns-in_err-group-clause-applied : goal.returns-in_err-group-clause-applied
returns-in_err-group-clause-applied g c =
    let p = err_from_is_err_and c.from_residual.result c.from_residual.ensures.1 in
    let none : set_refusal ((c.args.name, c.args.value) ∷ []) c.args.self.now.entries ≡ None =
    subst (λ (stored : Stored). set_refusal ((c.args.name, c.args.value) ∷ []) stored.entries ≡ None) c.self.view_is
    (sym c.refuses_set.ensures ∙ not_some c.refuses_set.result c.in_default.not-Some) in
    rw (p.1, p.2)
    (step_unmade _ _ _ _ _ (allowed_set c.args.self.now c.args.name c.args.value none) refl (omega arith))

pub returns-in_err-values-clause-applied : goal.returns-in_err-values-clause-applied
returns-in_err-values-clause-applied g c =
    let p = err_from_is_err_and c.from_residual-in_err-values.result c.from_residual-in_err-values.ensures.1 in
    let none : set_refusal ((c.args.name, c.args.value) ∷ []) c.args.self.now.entries ≡ None =
    subst (λ (stored : Stored). set_refusal ((c.args.name, c.args.value) ∷ []) stored.entries ≡ None) c.self.view_is
    (sym c.refuses_set.ensures ∙ not_some c.refuses_set.result c.in_default.not-Some) in
    rw (p.1, p.2)
    (step_unmade _ _ _ _ _ (allowed_set c.args.self.now c.args.name c.args.value none) refl (omega arith))

pub set_joined-requires-clause-joined : goal.set_joined-requires-clause-joined
set_joined-requires-clause-joined g c =
    subst (λ (stored : Stored). AreJoinedWith stored.pairs c.args.name.0 (c.args.name ∷ [])) c.self.view_is
    (alone_joined c.self.inside.pairs c.args.name
    (sym c.is_paired.ensures ∙ c.if-not-is_paired.true))
