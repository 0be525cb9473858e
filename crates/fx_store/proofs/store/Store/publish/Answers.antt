use Rattle.std.proofs.Common.{◌≡◌, false, [], None, arith, refl, sym, ap, subst, ◌∙◌}
use Rattle.fx_base.specs.declared.keys.Name.{Name}
use Rattle.fx_base.specs.declared.values.Value.{Value}
use Rattle.fx_base.specs.Names.{numbers}
use Rattle.fx_graph_model.specs.Changes.{changed}
use Rattle.fx_graph_model.specs.Sound.{AreSound}
use Rattle.fx_graph_model.specs.Uses.{bound_in}
use Rattle.fx_store.proofs.Twins.{all_from}
use Rattle.std.proofs.lemmas.Result.{err_from_is_err_and}
use Rattle.fx_store_model.specs.declared.changes.Change.TheVariants.{Publish}
use Rattle.fx_store_model.specs.Stored.{Stored}
use Rattle.fx_graph_model.specs.Refusals.{publish_refusal}
use Rattle.fx_store.proofs.Answering.{graph_ok}
use Rattle.fx_store.proofs.Stepping.{step_unmade}
use Rattle.fx_store.proofs.UnderLemmas.{allowed_publish, failed_made, fit_lent, given_known, not_some, refused_publish, under_known, under_publish}
use Rattle.fx_store.proofs.store.Store.publish.Goals as goal

pub returns-in-Some-clause-applied : goal.returns-in-Some-clause-applied
returns-in-Some-clause-applied g c =
    refused_publish c.self.inside.graph c.self.inside.pairs c.self.inside.listeners c.self.inside.owners c.self.inside.behind
    c.args.self.now c.args.pairs c.as_slice-given.result.now c.in-Some.refusal c.from.result c.args.work.now.evaluated c.self.view_is
    c.as_slice-given.ensures (sym c.refuses_publish.ensures ∙ c.in-Some.is) c.from.ensures

pub changing_names-requires : goal.changing_names-requires
changing_names-requires g c =
    let none = sym c.refuses_publish.ensures ∙ not_some c.refuses_publish.result c.in_default.not-Some in
    all_from (λ (word : Name × Value). bound_in c.self.inside.graph.entries word.0.0 ≡ false) c.as_slice-given.result.now
    (λ word i.
    c.laws.ensures.sound.free word.0.0
    (fit_lent c.self.inside.graph c.self.inside.pairs c.self.inside.listeners c.self.inside.owners c.self.inside.behind c.args.self.now
    c.args.pairs c.as_slice-given.result.now c.self.view_is c.requires c.as_slice-given.ensures none word i))

pub returns-in_err-changing-clause-applied : goal.returns-in_err-changing-clause-applied
returns-in_err-changing-clause-applied g c =
    let none : publish_refusal c.as_slice-given.result.now c.args.self.now.entries ≡ None =
    subst (λ (stored : Stored). publish_refusal c.as_slice-given.result.now stored.entries ≡ None) c.self.view_is
    (sym c.refuses_publish.ensures ∙ not_some c.refuses_publish.result c.in_default.not-Some) in
    let allowed = allowed_publish c.args.self.now c.args.pairs c.as_slice-given.result.now c.as_slice-given.ensures none in
    let p = err_from_is_err_and c.from_residual.result c.from_residual.ensures.1 in
    rw (p.1, p.2) (step_unmade _ _ _ _ _ allowed refl (omega arith))

pub look-requires : goal.look-requires
look-requires g c =
    given_known c.self.inside.graph c.self.inside.pairs c.self.inside.listeners c.self.inside.owners c.self.inside.behind c.args.self.now
    c.as_slice-given.result.now c.in_ok-changing.changing.items c.as_slice.result.now c.self.view_is
    (sym c.refuses_publish.ensures ∙ not_some c.refuses_publish.result c.in_default.not-Some) c.as_slice.ensures.value
    c.in_ok-changing.ensures

pub returns-in_err-watch-clause-applied : goal.returns-in_err-watch-clause-applied
returns-in_err-watch-clause-applied g c =
    let none : publish_refusal c.as_slice-given.result.now c.args.self.now.entries ≡ None =
    subst (λ (stored : Stored). publish_refusal c.as_slice-given.result.now stored.entries ≡ None) c.self.view_is
    (sym c.refuses_publish.ensures ∙ not_some c.refuses_publish.result c.in_default.not-Some) in
    let allowed = allowed_publish c.args.self.now c.args.pairs c.as_slice-given.result.now c.as_slice-given.ensures none in
    let p = err_from_is_err_and c.from_residual-in_err-watch.result c.from_residual-in_err-watch.ensures.1 in
    rw (p.1, p.2) (step_unmade _ _ _ _ _ allowed c.look.ensures.same c.look.ensures.cost)

pub returns-in_err-publish-clause-applied : goal.returns-in_err-publish-clause-applied
returns-in_err-publish-clause-applied g c =
    let none : publish_refusal c.as_slice-given.result.now c.args.self.now.entries ≡ None =
    subst (λ (stored : Stored). publish_refusal c.as_slice-given.result.now stored.entries ≡ None) c.self.view_is
    (sym c.refuses_publish.ensures ∙ not_some c.refuses_publish.result c.in_default.not-Some) in
    let allowed = allowed_publish c.args.self.now c.args.pairs c.as_slice-given.result.now c.as_slice-given.ensures none in
    let p = err_from_is_err_and c.from_residual-in_err-publish.result c.from_residual-in_err-publish.ensures.1 in
    let view = c.self-2.view_is ∙ c.look.ensures.same in
    rw (p.1, p.2)
    (failed_made c.self-2.inside.graph c.self-2.inside.pairs c.self-2.inside.listeners c.self-2.inside.owners c.self-2.inside.behind
    (Publish c.args.pairs) c.args.self.now (publish_refusal c.as_slice-given.result.now c.self-2.inside.graph.entries)
    c.in_err-publish.field-0.0 c.publish.new.self c.args.work.now.evaluated c.look.new.work.evaluated view allowed
    (subst (λ (stored : Stored). publish_refusal c.as_slice-given.result.now stored.entries ≡ None) (sym view) none)
    c.in_err-publish.ensures.answer c.in_err-publish.ensures.err c.look.ensures.cost)

pub finish-requires-clause-known : goal.finish-requires-clause-known
finish-requires-clause-known g c =
    let under =
    under_publish c.self-2.inside.graph c.self-2.inside.pairs c.self-2.inside.listeners c.self-2.inside.owners c.self-2.inside.behind
    c.args.self.now c.publish.new.self c.args.pairs c.as_slice-given.result.now c.as_slice.result.now [] c.in_ok-watch.watch.names.items
    c.in_ok-watch.watch.heard.items
    c.in_ok-watch.watch.before.items c.args.work.now.evaluated c.look.new.work.evaluated (c.self-2.view_is ∙ c.look.ensures.same)
    c.self-2.invariant (record { watch = c.in_ok-watch.ensures.watch; look = c.in_ok-watch.ensures.look; few = c.look.ensures.cost }) refl c.requires
    c.as_slice-given.ensures (subst (λ (stored : Stored). AreSound stored.entries) c.self.view_is c.laws.ensures.sound)
    (subst (λ (stored : Stored). numbers c.as_slice.result.now ≡ changed c.as_slice-given.result.now stored.entries) c.self.view_is
    (ap numbers c.as_slice.ensures.value ∙ c.in_ok-changing.ensures))
    (graph_ok (Unit {0}) _ c.in_ok-publish.field-0 c.in_ok-publish.ensures.answer) c.in_ok-publish.ensures.ok in
    under_known _ _ _ _ _ _ c.in_ok-watch.watch.names.items _ _ _ _ under

pub invariant_of-self-2 : goal.invariant_of-self-2
invariant_of-self-2 g c =
    let under =
    under_publish c.self-2.inside.graph c.self-2.inside.pairs c.self-2.inside.listeners c.self-2.inside.owners c.self-2.inside.behind
    c.args.self.now c.publish.new.self c.args.pairs c.as_slice-given.result.now c.as_slice.result.now [] c.in_ok-watch.watch.names.items
    c.in_ok-watch.watch.heard.items
    c.in_ok-watch.watch.before.items c.args.work.now.evaluated c.look.new.work.evaluated (c.self-2.view_is ∙ c.look.ensures.same)
    c.self-2.invariant (record { watch = c.in_ok-watch.ensures.watch; look = c.in_ok-watch.ensures.look; few = c.look.ensures.cost }) refl c.requires
    c.as_slice-given.ensures (subst (λ (stored : Stored). AreSound stored.entries) c.self.view_is c.laws.ensures.sound)
    (subst (λ (stored : Stored). numbers c.as_slice.result.now ≡ changed c.as_slice-given.result.now stored.entries) c.self.view_is
    (ap numbers c.as_slice.ensures.value ∙ c.in_ok-changing.ensures))
    (graph_ok (Unit {0}) _ c.in_ok-publish.field-0 c.in_ok-publish.ensures.answer) c.in_ok-publish.ensures.ok in
    c.finish.ensures.kept c.self-2.inside.pairs under.kept under.enough

pub returns-clause-applied : goal.returns-clause-applied
returns-clause-applied g c =
    let under =
    under_publish c.self-2.inside.graph c.self-2.inside.pairs c.self-2.inside.listeners c.self-2.inside.owners c.self-2.inside.behind
    c.args.self.now c.publish.new.self c.args.pairs c.as_slice-given.result.now c.as_slice.result.now [] c.in_ok-watch.watch.names.items
    c.in_ok-watch.watch.heard.items
    c.in_ok-watch.watch.before.items c.args.work.now.evaluated c.look.new.work.evaluated (c.self-2.view_is ∙ c.look.ensures.same)
    c.self-2.invariant (record { watch = c.in_ok-watch.ensures.watch; look = c.in_ok-watch.ensures.look; few = c.look.ensures.cost }) refl c.requires
    c.as_slice-given.ensures (subst (λ (stored : Stored). AreSound stored.entries) c.self.view_is c.laws.ensures.sound)
    (subst (λ (stored : Stored). numbers c.as_slice.result.now ≡ changed c.as_slice-given.result.now stored.entries) c.self.view_is
    (ap numbers c.as_slice.ensures.value ∙ c.in_ok-changing.ensures))
    (graph_ok (Unit {0}) _ c.in_ok-publish.field-0 c.in_ok-publish.ensures.answer) c.in_ok-publish.ensures.ok in
    c.finish.ensures.told (Publish c.args.pairs) c.args.self.now c.self-2.inside.pairs c.args.work.now.evaluated under
