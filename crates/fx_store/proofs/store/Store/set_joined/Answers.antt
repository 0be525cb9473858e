use Rattle.std.proofs.Common.{◌≡◌, subst, ◌∙◌}
use Rattle.std.proofs.lemmas.Result.{err_from_is_err_and}
use Rattle.fx_store_model.specs.declared.changes.Change.TheVariants.{Set}
use Rattle.fx_store_model.specs.Stored.{Stored}
use Rattle.fx_graph_model.specs.Refusals.{set_refusal}
use Rattle.fx_store.proofs.Stepping.{step_unmade}
use Rattle.fx_store.proofs.Looked.{ends_with}
use Rattle.fx_store.proofs.UnderLemmas.{IsJoined, allowed_set, failed_made, joined_here, set_known, set_unrefused, set_values, under_known, under_set}
use Rattle.fx_store.proofs.store.Store.set_joined.Goals as goal

pub look-requires : goal.look-requires
look-requires g c =
    let joins : IsJoined c.args.self.now c.args.given.now.0.0 c.args.names.now c.joined_ends-more.result.now =
    record {
      joins = c.requires.joined;
      further = subst (λ (stored : Stored). c.joined_ends-more.result.now ≡ ends_with stored.pairs c.args.given.now.0.0 c.args.names.now)
          c.self.view_is c.joined_ends-more.ensures;
    } in
    set_known c.self.inside.graph c.self.inside.pairs c.self.inside.listeners c.self.inside.owners c.self.inside.behind c.args.self.now
    c.args.given.now.0 c.args.given.now.1 c.args.names.now c.joined_ends-more.result.now c.self.view_is c.self.invariant joins c.requires.allowed

pub returns-in_err-watch-clause-applied : goal.returns-in_err-watch-clause-applied
returns-in_err-watch-clause-applied g c =
    let p = err_from_is_err_and c.from_residual.result c.from_residual.ensures.1 in
    rw (p.1, p.2)
    (step_unmade _ _ _ _ _ (allowed_set c.args.self.now c.args.given.now.0 c.args.given.now.1 c.requires.allowed) c.look.ensures.same
    c.look.ensures.cost)

pub set_group-requires : goal.set_group-requires
set_group-requires g c =
    let joins : IsJoined c.args.self.now c.args.given.now.0.0 c.args.names.now c.joined_ends-more.result.now =
    record {
      joins = c.requires.joined;
      further = subst (λ (stored : Stored). c.joined_ends-more.result.now ≡ ends_with stored.pairs c.args.given.now.0.0 c.args.names.now)
          c.self.view_is c.joined_ends-more.ensures;
    } in
    let group =
    set_values c.self-2.inside.graph c.self-2.inside.pairs c.self-2.inside.listeners c.self-2.inside.owners
    c.self-2.inside.behind
    c.args.self.now c.args.given.now.0 c.args.given.now.1 c.args.values.now
    (c.self-2.view_is ∙ c.look.ensures.same) c.self-2.invariant c.requires.allowed (
      c.args.names.now,
      (joined_here c.self-2.inside.graph c.self-2.inside.pairs c.self-2.inside.listeners c.self-2.inside.owners
          c.self-2.inside.behind c.args.self.now c.args.given.now.0.0 c.args.names.now c.joined_ends-more.result.now
          (c.self-2.view_is ∙ c.look.ensures.same) joins).joins,
      c.requires.values,
    ) in
    group.distinct

pub returns-in_err-set_group-clause-applied : goal.returns-in_err-set_group-clause-applied
returns-in_err-set_group-clause-applied g c =
    let p = err_from_is_err_and c.from_residual-in_err-set_group.result c.from_residual-in_err-set_group.ensures.1 in
    let joins : IsJoined c.args.self.now c.args.given.now.0.0 c.args.names.now c.joined_ends-more.result.now =
    record {
      joins = c.requires.joined;
      further = subst (λ (stored : Stored). c.joined_ends-more.result.now ≡ ends_with stored.pairs c.args.given.now.0.0 c.args.names.now)
          c.self.view_is c.joined_ends-more.ensures;
    } in
    let group =
    set_values c.self-2.inside.graph c.self-2.inside.pairs c.self-2.inside.listeners c.self-2.inside.owners
    c.self-2.inside.behind
    c.args.self.now c.args.given.now.0 c.args.given.now.1 c.args.values.now
    (c.self-2.view_is ∙ c.look.ensures.same) c.self-2.invariant c.requires.allowed (
      c.args.names.now,
      (joined_here c.self-2.inside.graph c.self-2.inside.pairs c.self-2.inside.listeners c.self-2.inside.owners
          c.self-2.inside.behind c.args.self.now c.args.given.now.0.0 c.args.names.now c.joined_ends-more.result.now
          (c.self-2.view_is ∙ c.look.ensures.same) joins).joins,
      c.requires.values,
    ) in
    rw (p.1, p.2)
    (failed_made c.self-2.inside.graph c.self-2.inside.pairs c.self-2.inside.listeners c.self-2.inside.owners
    c.self-2.inside.behind
    (Set c.args.given.now.0 c.args.given.now.1) c.args.self.now (set_refusal c.args.values.now c.self-2.inside.graph.entries)
    c.in_err-set_group.field-0.0 c.set_group.new.self c.args.work.now.evaluated c.look.new.work.evaluated
    (c.self-2.view_is ∙ c.look.ensures.same) (allowed_set c.args.self.now c.args.given.now.0 c.args.given.now.1 c.requires.allowed)
    (set_unrefused c.self-2.inside.graph c.self-2.inside.pairs c.self-2.inside.listeners c.self-2.inside.owners
    c.self-2.inside.behind
    c.args.self.now c.args.given.now.0 c.args.given.now.1 c.args.values.now
    (c.self-2.view_is ∙ c.look.ensures.same) c.self-2.invariant c.requires.allowed group)
    c.in_err-set_group.ensures.answer c.in_err-set_group.ensures.err c.look.ensures.cost)

pub finish-requires-clause-known : goal.finish-requires-clause-known
finish-requires-clause-known g c =
    let joins : IsJoined c.args.self.now c.args.given.now.0.0 c.args.names.now c.joined_ends-more.result.now =
    record {
      joins = c.requires.joined;
      further = subst (λ (stored : Stored). c.joined_ends-more.result.now ≡ ends_with stored.pairs c.args.given.now.0.0 c.args.names.now)
          c.self.view_is c.joined_ends-more.ensures;
    } in
    let group =
    set_values c.self-2.inside.graph c.self-2.inside.pairs c.self-2.inside.listeners c.self-2.inside.owners
    c.self-2.inside.behind
    c.args.self.now c.args.given.now.0 c.args.given.now.1 c.args.values.now
    (c.self-2.view_is ∙ c.look.ensures.same) c.self-2.invariant c.requires.allowed (
      c.args.names.now,
      (joined_here c.self-2.inside.graph c.self-2.inside.pairs c.self-2.inside.listeners c.self-2.inside.owners
          c.self-2.inside.behind c.args.self.now c.args.given.now.0.0 c.args.names.now c.joined_ends-more.result.now
          (c.self-2.view_is ∙ c.look.ensures.same) joins).joins,
      c.requires.values,
    ) in
    let under =
    under_set c.self-2.inside.graph c.self-2.inside.pairs c.self-2.inside.listeners c.self-2.inside.owners
    c.self-2.inside.behind
    c.args.self.now c.set_group.new.self c.args.given.now.0 c.args.given.now.1 c.args.values.now c.args.names.now
    c.joined_ends-more.result.now c.in_ok-watch.watch.names.items
    c.in_ok-watch.watch.heard.items c.in_ok-watch.watch.before.items c.args.work.now.evaluated c.look.new.work.evaluated
    (c.self-2.view_is ∙ c.look.ensures.same) c.self-2.invariant
    (record { watch = c.in_ok-watch.ensures.watch; look = c.in_ok-watch.ensures.look; few = c.look.ensures.cost }) joins group c.requires.allowed
    c.in_ok-set_group.ensures.ok in
    under_known _ _ _ _ _ _ c.in_ok-watch.watch.names.items _ _ _ _ under

pub invariant_of-self-2 : goal.invariant_of-self-2
invariant_of-self-2 g c =
    let joins : IsJoined c.args.self.now c.args.given.now.0.0 c.args.names.now c.joined_ends-more.result.now =
    record {
      joins = c.requires.joined;
      further = subst (λ (stored : Stored). c.joined_ends-more.result.now ≡ ends_with stored.pairs c.args.given.now.0.0 c.args.names.now)
          c.self.view_is c.joined_ends-more.ensures;
    } in
    let group =
    set_values c.self-2.inside.graph c.self-2.inside.pairs c.self-2.inside.listeners c.self-2.inside.owners
    c.self-2.inside.behind
    c.args.self.now c.args.given.now.0 c.args.given.now.1 c.args.values.now
    (c.self-2.view_is ∙ c.look.ensures.same) c.self-2.invariant c.requires.allowed (
      c.args.names.now,
      (joined_here c.self-2.inside.graph c.self-2.inside.pairs c.self-2.inside.listeners c.self-2.inside.owners
          c.self-2.inside.behind c.args.self.now c.args.given.now.0.0 c.args.names.now c.joined_ends-more.result.now
          (c.self-2.view_is ∙ c.look.ensures.same) joins).joins,
      c.requires.values,
    ) in
    let under =
    under_set c.self-2.inside.graph c.self-2.inside.pairs c.self-2.inside.listeners c.self-2.inside.owners
    c.self-2.inside.behind
    c.args.self.now c.set_group.new.self c.args.given.now.0 c.args.given.now.1 c.args.values.now c.args.names.now
    c.joined_ends-more.result.now c.in_ok-watch.watch.names.items
    c.in_ok-watch.watch.heard.items c.in_ok-watch.watch.before.items c.args.work.now.evaluated c.look.new.work.evaluated
    (c.self-2.view_is ∙ c.look.ensures.same) c.self-2.invariant
    (record { watch = c.in_ok-watch.ensures.watch; look = c.in_ok-watch.ensures.look; few = c.look.ensures.cost }) joins group c.requires.allowed
    c.in_ok-set_group.ensures.ok in
    c.finish.ensures.kept c.self-2.inside.pairs under.kept under.enough

pub returns-clause-applied : goal.returns-clause-applied
returns-clause-applied g c =
    let joins : IsJoined c.args.self.now c.args.given.now.0.0 c.args.names.now c.joined_ends-more.result.now =
    record {
      joins = c.requires.joined;
      further = subst (λ (stored : Stored). c.joined_ends-more.result.now ≡ ends_with stored.pairs c.args.given.now.0.0 c.args.names.now)
          c.self.view_is c.joined_ends-more.ensures;
    } in
    let group =
    set_values c.self-2.inside.graph c.self-2.inside.pairs c.self-2.inside.listeners c.self-2.inside.owners
    c.self-2.inside.behind
    c.args.self.now c.args.given.now.0 c.args.given.now.1 c.args.values.now
    (c.self-2.view_is ∙ c.look.ensures.same) c.self-2.invariant c.requires.allowed (
      c.args.names.now,
      (joined_here c.self-2.inside.graph c.self-2.inside.pairs c.self-2.inside.listeners c.self-2.inside.owners
          c.self-2.inside.behind c.args.self.now c.args.given.now.0.0 c.args.names.now c.joined_ends-more.result.now
          (c.self-2.view_is ∙ c.look.ensures.same) joins).joins,
      c.requires.values,
    ) in
    let under =
    under_set c.self-2.inside.graph c.self-2.inside.pairs c.self-2.inside.listeners c.self-2.inside.owners
    c.self-2.inside.behind
    c.args.self.now c.set_group.new.self c.args.given.now.0 c.args.given.now.1 c.args.values.now c.args.names.now
    c.joined_ends-more.result.now c.in_ok-watch.watch.names.items
    c.in_ok-watch.watch.heard.items c.in_ok-watch.watch.before.items c.args.work.now.evaluated c.look.new.work.evaluated
    (c.self-2.view_is ∙ c.look.ensures.same) c.self-2.invariant
    (record { watch = c.in_ok-watch.ensures.watch; look = c.in_ok-watch.ensures.look; few = c.look.ensures.cost }) joins group c.requires.allowed
    c.in_ok-set_group.ensures.ok in
    c.finish.ensures.told (Set c.args.given.now.0 c.args.given.now.1) c.args.self.now c.self-2.inside.pairs
    c.args.work.now.evaluated under
