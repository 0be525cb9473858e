use Rattle.std.proofs.Common.{◌≡◌, ◌≤◌, ◌+◌, true, [], ◌∷◌, List, length, Err, None, inl, inr, refl, ap, sym, subst, ◌∙◌}
use Rattle.std.proofs.lemmas.Result.{err_from_is_err_and}
use Rattle.fx_store_model.specs.declared.changes.Change.TheVariants.{Bind}
use Rattle.fx_store_model.specs.declared.errors.StoreError.TheVariants as error
use Rattle.fx_store_model.specs.Applied.{Applied}
use Rattle.fx_store_model.specs.Refusals.{bind_refusal}
use Rattle.fx_store_model.specs.Step.{due}
use Rattle.fx_store_model.specs.Stored.{Stored}
use Rattle.fx_base.specs.Names.{numbers}
use Rattle.fx_base.specs.declared.keys.Name.{Name}
use Rattle.fx_expr.specs.Tree.{is_within}
use Rattle.fx_graph_model.specs.Changes.{AreKnown, State, after_bind}
use Rattle.fx_graph_model.proofs.Refusing.{bindable}
use Rattle.fx_graph_model.specs.Refusals as graph
use Rattle.fx_store.specs.Kept.{stored_of}
use Rattle.fx_store.specs.Looking.{IsLook}
use Rattle.fx_store.specs.Watching.{IsWatch}
use Rattle.fx_store.proofs.Answering.{bind_may}
use Rattle.fx_store.proofs.Stepping.{step_unmade}
use Rattle.fx_store.proofs.UnderLemmas.{allowed_bind, bound_known, refused_bind, under_bind, under_known}
use Rattle.fx_store.proofs.store.Store.bind.Goals as goal

pub returns-in_err-refusal-clause-applied : goal.returns-in_err-refusal-clause-applied
returns-in_err-refusal-clause-applied g c =
    let p = err_from_is_err_and c.from_residual.result c.from_residual.ensures.1 in
    rw (p.1, p.2)
    (subst
    (λ (stored : Stored).
    Applied (Bind c.args.name c.args.expr c.args.operands) c.args.self.now stored (Err error.Memory) c.args.work.now.evaluated
    c.args.work.now.evaluated)
    (sym c.refuses_bind.ensures.same)
    (refused_bind c.args.self.now c.args.name c.args.expr c.args.operands c.as_slice.result.now error.Memory c.args.work.now.evaluated
    c.as_slice.ensures (inl refl)))

pub returns-in-Some-clause-applied : goal.returns-in-Some-clause-applied
returns-in-Some-clause-applied g c =
    subst
    (λ (stored : Stored).
    Applied (Bind c.args.name c.args.expr c.args.operands) c.args.self.now stored (Err c.in-Some.refusal) c.args.work.now.evaluated
    c.args.work.now.evaluated)
    (sym c.refuses_bind.ensures.same)
    (refused_bind c.args.self.now c.args.name c.args.expr c.args.operands c.as_slice.result.now c.in-Some.refusal c.args.work.now.evaluated
    c.as_slice.ensures (inr (sym c.in-Some.is ∙ c.in_ok-refusal.ensures.refusal)))

pub look-requires : goal.look-requires
look-requires g c =
    let none : bind_refusal c.args.name c.args.expr c.as_slice.result.now c.args.self.now.entries c.args.self.now.pairs ≡ None =
    sym c.in_ok-refusal.ensures.refusal ∙ c.in-None.is in
    let may = bind_may c.args.name c.args.expr c.as_slice.result.now c.args.self.now.entries c.args.self.now.pairs none in
    subst (λ (stored : Stored). AreKnown stored.entries (c.args.name ∷ [])) (sym c.refuses_bind.ensures.same)
    (bound_known c.args.self.now c.args.name (bindable c.args.name c.args.expr c.as_slice.result.now c.args.self.now.entries may.1).known)

pub returns-in_err-watch-clause-applied : goal.returns-in_err-watch-clause-applied
returns-in_err-watch-clause-applied g c =
    let none : bind_refusal c.args.name c.args.expr c.as_slice.result.now c.args.self.now.entries c.args.self.now.pairs ≡ None =
    sym c.in_ok-refusal.ensures.refusal ∙ c.in-None.is in
    let may = bind_may c.args.name c.args.expr c.as_slice.result.now c.args.self.now.entries c.args.self.now.pairs none in
    let allowed = allowed_bind c.args.self.now c.args.name c.args.expr c.args.operands c.as_slice.result.now c.as_slice.ensures may.0 may.1 in
    let few : c.look.new.work.evaluated ≤ c.args.work.now.evaluated + due c.args.self.now =
    subst (λ (stored : Stored). c.look.new.work.evaluated ≤ c.args.work.now.evaluated + due stored) c.refuses_bind.ensures.same
    c.look.ensures.cost in
    let p = err_from_is_err_and c.from_residual-in_err-watch.result c.from_residual-in_err-watch.ensures.1 in
    rw (p.1, p.2) (step_unmade _ _ _ _ _ allowed (c.look.ensures.same ∙ c.refuses_bind.ensures.same) few)

pub make_binding-requires-clause-places : goal.make_binding-requires-clause-places
make_binding-requires-clause-places g c =
    subst (λ (ns : List Name). is_within c.args.expr (length ns) ≡ true) (sym c.into_vec.ensures) c.requires

pub make_binding-requires-clause-allowed : goal.make_binding-requires-clause-allowed
make_binding-requires-clause-allowed g c =
    let none : bind_refusal c.args.name c.args.expr c.as_slice.result.now c.args.self.now.entries c.args.self.now.pairs ≡ None =
    sym c.in_ok-refusal.ensures.refusal ∙ c.in-None.is in
    let may = bind_may c.args.name c.args.expr c.as_slice.result.now c.args.self.now.entries c.args.self.now.pairs none in
    let view : stored_of c.self.inside.graph c.self.inside.pairs c.self.inside.listeners c.self.inside.owners ≡ c.args.self.now =
    c.self.view_is ∙ c.look.ensures.same ∙ c.refuses_bind.ensures.same in
    let here : graph.bind_refusal c.args.name c.args.expr c.args.operands c.self.inside.graph.entries ≡ None =
    subst (λ (stored : Stored). graph.bind_refusal c.args.name c.args.expr c.args.operands stored.entries ≡ None) (sym view)
    (subst (λ ns. graph.bind_refusal c.args.name c.args.expr ns c.args.self.now.entries ≡ None) c.as_slice.ensures may.1) in
    subst (λ (ns : List Name). graph.bind_refusal c.args.name c.args.expr ns c.self.inside.graph.entries ≡ None) (sym c.into_vec.ensures) here

pub returns-in_err-make_binding-clause-applied : goal.returns-in_err-make_binding-clause-applied
returns-in_err-make_binding-clause-applied g c =
    let none : bind_refusal c.args.name c.args.expr c.as_slice.result.now c.args.self.now.entries c.args.self.now.pairs ≡ None =
    sym c.in_ok-refusal.ensures.refusal ∙ c.in-None.is in
    let may = bind_may c.args.name c.args.expr c.as_slice.result.now c.args.self.now.entries c.args.self.now.pairs none in
    let allowed = allowed_bind c.args.self.now c.args.name c.args.expr c.args.operands c.as_slice.result.now c.as_slice.ensures may.0 may.1 in
    let view : stored_of c.self.inside.graph c.self.inside.pairs c.self.inside.listeners c.self.inside.owners ≡ c.args.self.now =
    c.self.view_is ∙ c.look.ensures.same ∙ c.refuses_bind.ensures.same in
    let here : graph.bind_refusal c.args.name c.args.expr c.args.operands c.self.inside.graph.entries ≡ None =
    subst (λ (stored : Stored). graph.bind_refusal c.args.name c.args.expr c.args.operands stored.entries ≡ None) (sym view)
    (subst (λ ns. graph.bind_refusal c.args.name c.args.expr ns c.args.self.now.entries ≡ None) c.as_slice.ensures may.1) in
    let few : c.look.new.work.evaluated ≤ c.args.work.now.evaluated + due c.args.self.now =
    subst (λ (stored : Stored). c.look.new.work.evaluated ≤ c.args.work.now.evaluated + due stored) c.refuses_bind.ensures.same
    c.look.ensures.cost in
    let p = err_from_is_err_and c.from_residual-in_err-make_binding.result c.from_residual-in_err-make_binding.ensures.1 in
    rw (p.1, p.2)
    (step_unmade _ _ _ _ _ allowed
    (ap (λ (state : State). stored_of state c.self.inside.pairs c.self.inside.listeners c.self.inside.owners)
    c.in_err-make_binding.ensures.err ∙ view) few)

pub finish-requires-clause-known : goal.finish-requires-clause-known
finish-requires-clause-known g c =
    let none : bind_refusal c.args.name c.args.expr c.as_slice.result.now c.args.self.now.entries c.args.self.now.pairs ≡ None =
    sym c.in_ok-refusal.ensures.refusal ∙ c.in-None.is in
    let may = bind_may c.args.name c.args.expr c.as_slice.result.now c.args.self.now.entries c.args.self.now.pairs none in
    let view : stored_of c.self.inside.graph c.self.inside.pairs c.self.inside.listeners c.self.inside.owners ≡ c.args.self.now =
    c.self.view_is ∙ c.look.ensures.same ∙ c.refuses_bind.ensures.same in
    let here : graph.bind_refusal c.args.name c.args.expr c.args.operands c.self.inside.graph.entries ≡ None =
    subst (λ (stored : Stored). graph.bind_refusal c.args.name c.args.expr c.args.operands stored.entries ≡ None) (sym view)
    (subst (λ ns. graph.bind_refusal c.args.name c.args.expr ns c.args.self.now.entries ≡ None) c.as_slice.ensures may.1) in
    let few : c.look.new.work.evaluated ≤ c.args.work.now.evaluated + due c.args.self.now =
    subst (λ (stored : Stored). c.look.new.work.evaluated ≤ c.args.work.now.evaluated + due stored) c.refuses_bind.ensures.same
    c.look.ensures.cost in
    let under =
    under_bind c.self.inside.graph c.self.inside.pairs c.self.inside.listeners c.self.inside.owners c.self.inside.behind
    c.args.self.now c.make_binding.new.self c.args.name c.args.expr c.args.operands (c.args.name ∷ []) [] c.in_ok-watch.watch.names.items
    c.in_ok-watch.watch.heard.items c.in_ok-watch.watch.before.items c.args.work.now.evaluated c.look.new.work.evaluated view
    c.self.invariant
    (record {
      watch = subst (λ (stored : Stored). IsWatch stored.entries c.in_ok-watch.watch.heard.items
          c.in_ok-watch.watch.names.items c.in_ok-watch.watch.before.items) c.refuses_bind.ensures.same c.in_ok-watch.ensures.watch;
      look = subst (λ (stored : Stored). IsLook stored.entries stored.unread stored.pairs stored.listeners (c.args.name.0 ∷ []) []
          c.in_ok-watch.watch.heard.items c.in_ok-watch.watch.names.items) c.refuses_bind.ensures.same c.in_ok-watch.ensures.look;
      few = few;
    }) refl refl may.0 here
    (subst (λ (ns : List Name). c.make_binding.new.self ≡ after_bind c.args.name.0 c.args.expr (numbers ns) c.self.inside.graph) c.into_vec.ensures
    c.in_ok-make_binding.ensures.ok) in
    under_known _ _ _ _ _ _ c.in_ok-watch.watch.names.items _ _ _ _ under

pub invariant_of-self-2 : goal.invariant_of-self-2
invariant_of-self-2 g c =
    let none : bind_refusal c.args.name c.args.expr c.as_slice.result.now c.args.self.now.entries c.args.self.now.pairs ≡ None =
    sym c.in_ok-refusal.ensures.refusal ∙ c.in-None.is in
    let may = bind_may c.args.name c.args.expr c.as_slice.result.now c.args.self.now.entries c.args.self.now.pairs none in
    let view : stored_of c.self.inside.graph c.self.inside.pairs c.self.inside.listeners c.self.inside.owners ≡ c.args.self.now =
    c.self.view_is ∙ c.look.ensures.same ∙ c.refuses_bind.ensures.same in
    let here : graph.bind_refusal c.args.name c.args.expr c.args.operands c.self.inside.graph.entries ≡ None =
    subst (λ (stored : Stored). graph.bind_refusal c.args.name c.args.expr c.args.operands stored.entries ≡ None) (sym view)
    (subst (λ ns. graph.bind_refusal c.args.name c.args.expr ns c.args.self.now.entries ≡ None) c.as_slice.ensures may.1) in
    let few : c.look.new.work.evaluated ≤ c.args.work.now.evaluated + due c.args.self.now =
    subst (λ (stored : Stored). c.look.new.work.evaluated ≤ c.args.work.now.evaluated + due stored) c.refuses_bind.ensures.same
    c.look.ensures.cost in
    let under =
    under_bind c.self.inside.graph c.self.inside.pairs c.self.inside.listeners c.self.inside.owners c.self.inside.behind
    c.args.self.now c.make_binding.new.self c.args.name c.args.expr c.args.operands (c.args.name ∷ []) [] c.in_ok-watch.watch.names.items
    c.in_ok-watch.watch.heard.items c.in_ok-watch.watch.before.items c.args.work.now.evaluated c.look.new.work.evaluated view
    c.self.invariant
    (record {
      watch = subst (λ (stored : Stored). IsWatch stored.entries c.in_ok-watch.watch.heard.items
          c.in_ok-watch.watch.names.items c.in_ok-watch.watch.before.items) c.refuses_bind.ensures.same c.in_ok-watch.ensures.watch;
      look = subst (λ (stored : Stored). IsLook stored.entries stored.unread stored.pairs stored.listeners (c.args.name.0 ∷ []) []
          c.in_ok-watch.watch.heard.items c.in_ok-watch.watch.names.items) c.refuses_bind.ensures.same c.in_ok-watch.ensures.look;
      few = few;
    }) refl refl may.0 here
    (subst (λ (ns : List Name). c.make_binding.new.self ≡ after_bind c.args.name.0 c.args.expr (numbers ns) c.self.inside.graph) c.into_vec.ensures
    c.in_ok-make_binding.ensures.ok) in
    c.finish.ensures.kept c.self.inside.pairs under.kept under.enough

pub returns-clause-applied : goal.returns-clause-applied
returns-clause-applied g c =
    let none : bind_refusal c.args.name c.args.expr c.as_slice.result.now c.args.self.now.entries c.args.self.now.pairs ≡ None =
    sym c.in_ok-refusal.ensures.refusal ∙ c.in-None.is in
    let may = bind_may c.args.name c.args.expr c.as_slice.result.now c.args.self.now.entries c.args.self.now.pairs none in
    let view : stored_of c.self.inside.graph c.self.inside.pairs c.self.inside.listeners c.self.inside.owners ≡ c.args.self.now =
    c.self.view_is ∙ c.look.ensures.same ∙ c.refuses_bind.ensures.same in
    let here : graph.bind_refusal c.args.name c.args.expr c.args.operands c.self.inside.graph.entries ≡ None =
    subst (λ (stored : Stored). graph.bind_refusal c.args.name c.args.expr c.args.operands stored.entries ≡ None) (sym view)
    (subst (λ ns. graph.bind_refusal c.args.name c.args.expr ns c.args.self.now.entries ≡ None) c.as_slice.ensures may.1) in
    let few : c.look.new.work.evaluated ≤ c.args.work.now.evaluated + due c.args.self.now =
    subst (λ (stored : Stored). c.look.new.work.evaluated ≤ c.args.work.now.evaluated + due stored) c.refuses_bind.ensures.same
    c.look.ensures.cost in
    let under =
    under_bind c.self.inside.graph c.self.inside.pairs c.self.inside.listeners c.self.inside.owners c.self.inside.behind
    c.args.self.now c.make_binding.new.self c.args.name c.args.expr c.args.operands (c.args.name ∷ []) [] c.in_ok-watch.watch.names.items
    c.in_ok-watch.watch.heard.items c.in_ok-watch.watch.before.items c.args.work.now.evaluated c.look.new.work.evaluated view
    c.self.invariant
    (record {
      watch = subst (λ (stored : Stored). IsWatch stored.entries c.in_ok-watch.watch.heard.items
          c.in_ok-watch.watch.names.items c.in_ok-watch.watch.before.items) c.refuses_bind.ensures.same c.in_ok-watch.ensures.watch;
      look = subst (λ (stored : Stored). IsLook stored.entries stored.unread stored.pairs stored.listeners (c.args.name.0 ∷ []) []
          c.in_ok-watch.watch.heard.items c.in_ok-watch.watch.names.items) c.refuses_bind.ensures.same c.in_ok-watch.ensures.look;
      few = few;
    }) refl refl may.0 here
    (subst (λ (ns : List Name). c.make_binding.new.self ≡ after_bind c.args.name.0 c.args.expr (numbers ns) c.self.inside.graph) c.into_vec.ensures
    c.in_ok-make_binding.ensures.ok) in
    c.finish.ensures.told (Bind c.args.name c.args.expr c.args.operands) c.args.self.now c.self.inside.pairs c.args.work.now.evaluated under
