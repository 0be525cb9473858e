use Rattle.std.proofs.Common.{◌≡◌, None, arith, refl, sym, subst, ◌∙◌}
use Rattle.std.proofs.lemmas.Result.{err_from_is_err_and}
use Rattle.fx_store_model.specs.declared.changes.Change.TheVariants.{Pair}
use Rattle.fx_store_model.specs.Refusals.{pair_refusal}
use Rattle.fx_store_model.specs.Stored.{Stored}
use Rattle.fx_base.specs.Names.{numbers}
use Rattle.fx_store.specs.Groups.{AreJoinedWith}
use Rattle.fx_store.proofs.Stepping.{step_unmade}
use Rattle.fx_store.proofs.Twins.{own_known, own_unbound}
use Rattle.fx_store.proofs.UnderLemmas.{IsJoined, allowed_pair, failed_pair, not_some, pair_able, pair_group_unrefused, pair_known, pair_values, pair_watch, refused_pair, under_known, under_pair}
use Rattle.fx_store.proofs.store.Store.pair.Goals as goal

pub returns-in-Some-clause-applied : goal.returns-in-Some-clause-applied
returns-in-Some-clause-applied g c =
    refused_pair c.self.inside.graph c.self.inside.pairs c.self.inside.listeners c.self.inside.owners c.self.inside.behind c.args.self.now
    c.args.one c.args.other c.in-Some.refusal c.args.work.now.evaluated c.self.view_is (sym c.of_pair.ensures ∙ c.in-Some.is)

pub returns-in_err-group-clause-applied : goal.returns-in_err-group-clause-applied
returns-in_err-group-clause-applied g c =
    let p = err_from_is_err_and c.from_residual.result c.from_residual.ensures.1 in
    let none : pair_refusal c.args.one c.args.other c.args.self.now.entries c.args.self.now.pairs ≡ None =
    subst (λ (stored : Stored). pair_refusal c.args.one c.args.other stored.entries stored.pairs ≡ None) c.self.view_is
    (sym c.of_pair.ensures ∙ not_some c.of_pair.result c.in_default.not-Some) in
    rw (p.1, p.2)
    (step_unmade _ _ _ _ _ (allowed_pair c.args.self.now c.args.one c.args.other none) refl (omega arith))

pub look-requires : goal.look-requires
look-requires g c =
    let none : pair_refusal c.args.one c.args.other c.args.self.now.entries c.args.self.now.pairs ≡ None =
    subst (λ (stored : Stored). pair_refusal c.args.one c.args.other stored.entries stored.pairs ≡ None) c.self.view_is
    (sym c.of_pair.ensures ∙ not_some c.of_pair.result c.in_default.not-Some) in
    let joins : IsJoined c.args.self.now c.args.one.0 c.as_slice-names.result.now c.joined_ends-more.result.now =
    subst (λ (stored : Stored). IsJoined stored c.args.one.0 c.as_slice-names.result.now c.joined_ends-more.result.now) c.self.view_is
    (record {
      joins = subst (AreJoinedWith c.self.inside.pairs c.args.one.0) (sym c.as_slice-names.ensures.value)
          (record { members = c.in_ok-group.ensures.members; distinct = c.in_ok-group.ensures.distinct });
      further = c.joined_ends-more.ensures;
    }) in
    pair_known c.self.inside.graph c.self.inside.pairs c.self.inside.listeners c.self.inside.owners c.self.inside.behind c.args.self.now
    c.args.one c.args.other c.as_slice-names.result.now c.joined_ends-more.result.now c.self.view_is c.self.invariant joins none

pub returns-in_err-watch-clause-applied : goal.returns-in_err-watch-clause-applied
returns-in_err-watch-clause-applied g c =
    let p = err_from_is_err_and c.from_residual-in_err-watch.result c.from_residual-in_err-watch.ensures.1 in
    let none : pair_refusal c.args.one c.args.other c.args.self.now.entries c.args.self.now.pairs ≡ None =
    subst (λ (stored : Stored). pair_refusal c.args.one c.args.other stored.entries stored.pairs ≡ None) c.self.view_is
    (sym c.of_pair.ensures ∙ not_some c.of_pair.result c.in_default.not-Some) in
    rw (p.1, p.2)
    (step_unmade _ _ _ _ _ (allowed_pair c.args.self.now c.args.one c.args.other none) c.look.ensures.same c.look.ensures.cost)

pub other_values-requires-clause-known : goal.other_values-requires-clause-known
other_values-requires-clause-known g c =
    let none : pair_refusal c.args.one c.args.other c.args.self.now.entries c.args.self.now.pairs ≡ None =
    subst (λ (stored : Stored). pair_refusal c.args.one c.args.other stored.entries stored.pairs ≡ None) c.self.view_is
    (sym c.of_pair.ensures ∙ not_some c.of_pair.result c.in_default.not-Some) in
    let able =
    pair_able c.self-2.inside.graph c.self-2.inside.pairs c.self-2.inside.listeners c.self-2.inside.owners c.self-2.inside.behind
    c.args.self.now c.args.one c.args.other (c.self-2.view_is ∙ c.look.ensures.same) none in
    own_known c.self-2.inside.graph.entries c.args.other.0 able.other_own

pub other_values-requires-clause-free : goal.other_values-requires-clause-free
other_values-requires-clause-free g c =
    let none : pair_refusal c.args.one c.args.other c.args.self.now.entries c.args.self.now.pairs ≡ None =
    subst (λ (stored : Stored). pair_refusal c.args.one c.args.other stored.entries stored.pairs ≡ None) c.self.view_is
    (sym c.of_pair.ensures ∙ not_some c.of_pair.result c.in_default.not-Some) in
    let able =
    pair_able c.self-2.inside.graph c.self-2.inside.pairs c.self-2.inside.listeners c.self-2.inside.owners c.self-2.inside.behind
    c.args.self.now c.args.one c.args.other (c.self-2.view_is ∙ c.look.ensures.same) none in
    own_unbound c.self-2.inside.graph.entries c.args.other.0 able.other_own

pub returns-in_err-values-clause-applied : goal.returns-in_err-values-clause-applied
returns-in_err-values-clause-applied g c =
    let p = err_from_is_err_and c.from_residual-in_err-values.result c.from_residual-in_err-values.ensures.1 in
    let none : pair_refusal c.args.one c.args.other c.args.self.now.entries c.args.self.now.pairs ≡ None =
    subst (λ (stored : Stored). pair_refusal c.args.one c.args.other stored.entries stored.pairs ≡ None) c.self.view_is
    (sym c.of_pair.ensures ∙ not_some c.of_pair.result c.in_default.not-Some) in
    rw (p.1, p.2)
    (step_unmade _ _ _ _ _ (allowed_pair c.args.self.now c.args.one c.args.other none) c.look.ensures.same c.look.ensures.cost)

pub returns-in_err-push_two-clause-applied : goal.returns-in_err-push_two-clause-applied
returns-in_err-push_two-clause-applied g c =
    let p = err_from_is_err_and c.from_residual-in_err-push_two.result c.from_residual-in_err-push_two.ensures.1 in
    let none : pair_refusal c.args.one c.args.other c.args.self.now.entries c.args.self.now.pairs ≡ None =
    subst (λ (stored : Stored). pair_refusal c.args.one c.args.other stored.entries stored.pairs ≡ None) c.self.view_is
    (sym c.of_pair.ensures ∙ not_some c.of_pair.result c.in_default.not-Some) in
    rw (p.1, p.2)
    (step_unmade _ _ _ _ _ (allowed_pair c.args.self.now c.args.one c.args.other none) c.look.ensures.same c.look.ensures.cost)

pub join-requires-clause-distinct : goal.join-requires-clause-distinct
join-requires-clause-distinct g c =
    let none : pair_refusal c.args.one c.args.other c.args.self.now.entries c.args.self.now.pairs ≡ None =
    subst (λ (stored : Stored). pair_refusal c.args.one c.args.other stored.entries stored.pairs ≡ None) c.self.view_is
    (sym c.of_pair.ensures ∙ not_some c.of_pair.result c.in_default.not-Some) in
    let joins : IsJoined c.args.self.now c.args.one.0 c.as_slice-names.result.now c.joined_ends-more.result.now =
    subst (λ (stored : Stored). IsJoined stored c.args.one.0 c.as_slice-names.result.now c.joined_ends-more.result.now) c.self.view_is
    (record {
      joins = subst (AreJoinedWith c.self.inside.pairs c.args.one.0) (sym c.as_slice-names.ensures.value)
          (record { members = c.in_ok-group.ensures.members; distinct = c.in_ok-group.ensures.distinct });
      further = c.joined_ends-more.ensures;
    }) in
    let group =
    pair_values c.self-2.inside.graph c.self-2.inside.pairs c.self-2.inside.listeners c.self-2.inside.owners c.self-2.inside.behind
    c.args.self.now c.args.one c.args.other c.as_slice.result.now (c.self-2.view_is ∙ c.look.ensures.same) c.self-2.invariant none
    c.as_slice-names.result.now c.joined_ends-more.result.now joins (c.as_slice.ensures.value ∙ c.in_ok-values.ensures) in
    group.distinct

pub join-requires-clause-allowed : goal.join-requires-clause-allowed
join-requires-clause-allowed g c =
    let none : pair_refusal c.args.one c.args.other c.args.self.now.entries c.args.self.now.pairs ≡ None =
    subst (λ (stored : Stored). pair_refusal c.args.one c.args.other stored.entries stored.pairs ≡ None) c.self.view_is
    (sym c.of_pair.ensures ∙ not_some c.of_pair.result c.in_default.not-Some) in
    let joins : IsJoined c.args.self.now c.args.one.0 c.as_slice-names.result.now c.joined_ends-more.result.now =
    subst (λ (stored : Stored). IsJoined stored c.args.one.0 c.as_slice-names.result.now c.joined_ends-more.result.now) c.self.view_is
    (record {
      joins = subst (AreJoinedWith c.self.inside.pairs c.args.one.0) (sym c.as_slice-names.ensures.value)
          (record { members = c.in_ok-group.ensures.members; distinct = c.in_ok-group.ensures.distinct });
      further = c.joined_ends-more.ensures;
    }) in
    let group =
    pair_values c.self-2.inside.graph c.self-2.inside.pairs c.self-2.inside.listeners c.self-2.inside.owners c.self-2.inside.behind
    c.args.self.now c.args.one c.args.other c.as_slice.result.now (c.self-2.view_is ∙ c.look.ensures.same) c.self-2.invariant none
    c.as_slice-names.result.now c.joined_ends-more.result.now joins (c.as_slice.ensures.value ∙ c.in_ok-values.ensures) in
    pair_group_unrefused c.self-2.inside.graph c.self-2.inside.pairs c.self-2.inside.listeners c.self-2.inside.owners c.self-2.inside.behind
    c.args.self.now c.args.one c.args.other c.as_slice.result.now (c.self-2.view_is ∙ c.look.ensures.same) c.self-2.invariant
    c.laws.ensures.sound none group

pub returns-in_err-join-clause-applied : goal.returns-in_err-join-clause-applied
returns-in_err-join-clause-applied g c =
    let p = err_from_is_err_and c.from_residual-in_err-join.result c.from_residual-in_err-join.ensures.1 in
    let none : pair_refusal c.args.one c.args.other c.args.self.now.entries c.args.self.now.pairs ≡ None =
    subst (λ (stored : Stored). pair_refusal c.args.one c.args.other stored.entries stored.pairs ≡ None) c.self.view_is
    (sym c.of_pair.ensures ∙ not_some c.of_pair.result c.in_default.not-Some) in
    rw (p.1, p.2)
    (failed_pair c.self-2.inside.graph c.self-2.inside.pairs c.self-2.inside.listeners c.self-2.inside.owners c.self-2.inside.behind
    c.args.self.now c.args.one c.args.other c.in_err-join.field-0.0 c.join.new.graph c.join.new.pairs c.args.work.now.evaluated
    c.look.new.work.evaluated (c.self-2.view_is ∙ c.look.ensures.same)
    (allowed_pair c.args.self.now c.args.one c.args.other none) c.in_err-join.ensures.memory c.in_err-join.ensures.same_graph
    c.in_err-join.ensures.same_pairs c.look.ensures.cost)

pub finish-requires-clause-known : goal.finish-requires-clause-known
finish-requires-clause-known g c =
    let none : pair_refusal c.args.one c.args.other c.args.self.now.entries c.args.self.now.pairs ≡ None =
    subst (λ (stored : Stored). pair_refusal c.args.one c.args.other stored.entries stored.pairs ≡ None) c.self.view_is
    (sym c.of_pair.ensures ∙ not_some c.of_pair.result c.in_default.not-Some) in
    let joins : IsJoined c.args.self.now c.args.one.0 c.as_slice-names.result.now c.joined_ends-more.result.now =
    subst (λ (stored : Stored). IsJoined stored c.args.one.0 c.as_slice-names.result.now c.joined_ends-more.result.now) c.self.view_is
    (record {
      joins = subst (AreJoinedWith c.self.inside.pairs c.args.one.0) (sym c.as_slice-names.ensures.value)
          (record { members = c.in_ok-group.ensures.members; distinct = c.in_ok-group.ensures.distinct });
      further = c.joined_ends-more.ensures;
    }) in
    let group =
    pair_values c.self-2.inside.graph c.self-2.inside.pairs c.self-2.inside.listeners c.self-2.inside.owners c.self-2.inside.behind
    c.args.self.now c.args.one c.args.other c.as_slice.result.now (c.self-2.view_is ∙ c.look.ensures.same) c.self-2.invariant none
    c.as_slice-names.result.now c.joined_ends-more.result.now joins (c.as_slice.ensures.value ∙ c.in_ok-values.ensures) in
    let under =
    under_pair c.self-2.inside.graph c.self-2.inside.pairs c.self-2.inside.listeners c.self-2.inside.owners c.self-2.inside.behind
    c.args.self.now c.join.new.graph c.join.new.pairs c.args.one c.args.other c.as_slice.result.now c.as_slice-names.result.now
    c.joined_ends-more.result.now c.in_ok-watch.watch.names.items
    c.push_two.new.names.items c.in_ok-watch.watch.heard.items c.in_ok-watch.watch.before.items c.args.work.now.evaluated
    c.look.new.work.evaluated (c.self-2.view_is ∙ c.look.ensures.same) c.self-2.invariant
    (record { watch = c.in_ok-watch.ensures.watch; look = c.in_ok-watch.ensures.look; few = c.look.ensures.cost }) joins
    c.in_ok-push_two.ensures group none
    c.in_ok-join.ensures.graph c.in_ok-join.ensures.pairs in
    under_known _ _ _ _ _ _ c.push_two.new.names.items _ _ _ _ under

pub finish-requires-clause-watch : goal.finish-requires-clause-watch
finish-requires-clause-watch g c = (
  c.self-2.inside.graph.entries,
  pair_watch c.self-2.inside.graph c.self-2.inside.pairs c.self-2.inside.listeners c.self-2.inside.owners c.self-2.inside.behind
      c.args.self.now c.args.one c.args.other (numbers c.as_slice-names.result.now) (numbers c.joined_ends-more.result.now)
      c.in_ok-watch.watch.names.items c.push_two.new.names.items
      c.in_ok-watch.watch.heard.items c.in_ok-watch.watch.before.items c.args.work.now.evaluated c.look.new.work.evaluated
      (c.self-2.view_is ∙ c.look.ensures.same)
      (record { watch = c.in_ok-watch.ensures.watch; look = c.in_ok-watch.ensures.look; few = c.look.ensures.cost }) c.in_ok-push_two.ensures,
)

pub invariant_of-self-2 : goal.invariant_of-self-2
invariant_of-self-2 g c =
    let none : pair_refusal c.args.one c.args.other c.args.self.now.entries c.args.self.now.pairs ≡ None =
    subst (λ (stored : Stored). pair_refusal c.args.one c.args.other stored.entries stored.pairs ≡ None) c.self.view_is
    (sym c.of_pair.ensures ∙ not_some c.of_pair.result c.in_default.not-Some) in
    let joins : IsJoined c.args.self.now c.args.one.0 c.as_slice-names.result.now c.joined_ends-more.result.now =
    subst (λ (stored : Stored). IsJoined stored c.args.one.0 c.as_slice-names.result.now c.joined_ends-more.result.now) c.self.view_is
    (record {
      joins = subst (AreJoinedWith c.self.inside.pairs c.args.one.0) (sym c.as_slice-names.ensures.value)
          (record { members = c.in_ok-group.ensures.members; distinct = c.in_ok-group.ensures.distinct });
      further = c.joined_ends-more.ensures;
    }) in
    let group =
    pair_values c.self-2.inside.graph c.self-2.inside.pairs c.self-2.inside.listeners c.self-2.inside.owners c.self-2.inside.behind
    c.args.self.now c.args.one c.args.other c.as_slice.result.now (c.self-2.view_is ∙ c.look.ensures.same) c.self-2.invariant none
    c.as_slice-names.result.now c.joined_ends-more.result.now joins (c.as_slice.ensures.value ∙ c.in_ok-values.ensures) in
    let under =
    under_pair c.self-2.inside.graph c.self-2.inside.pairs c.self-2.inside.listeners c.self-2.inside.owners c.self-2.inside.behind
    c.args.self.now c.join.new.graph c.join.new.pairs c.args.one c.args.other c.as_slice.result.now c.as_slice-names.result.now
    c.joined_ends-more.result.now c.in_ok-watch.watch.names.items
    c.push_two.new.names.items c.in_ok-watch.watch.heard.items c.in_ok-watch.watch.before.items c.args.work.now.evaluated
    c.look.new.work.evaluated (c.self-2.view_is ∙ c.look.ensures.same) c.self-2.invariant
    (record { watch = c.in_ok-watch.ensures.watch; look = c.in_ok-watch.ensures.look; few = c.look.ensures.cost }) joins
    c.in_ok-push_two.ensures group none
    c.in_ok-join.ensures.graph c.in_ok-join.ensures.pairs in
    c.finish.ensures.kept c.join.new.pairs under.kept under.enough

pub returns-clause-applied : goal.returns-clause-applied
returns-clause-applied g c =
    let none : pair_refusal c.args.one c.args.other c.args.self.now.entries c.args.self.now.pairs ≡ None =
    subst (λ (stored : Stored). pair_refusal c.args.one c.args.other stored.entries stored.pairs ≡ None) c.self.view_is
    (sym c.of_pair.ensures ∙ not_some c.of_pair.result c.in_default.not-Some) in
    let joins : IsJoined c.args.self.now c.args.one.0 c.as_slice-names.result.now c.joined_ends-more.result.now =
    subst (λ (stored : Stored). IsJoined stored c.args.one.0 c.as_slice-names.result.now c.joined_ends-more.result.now) c.self.view_is
    (record {
      joins = subst (AreJoinedWith c.self.inside.pairs c.args.one.0) (sym c.as_slice-names.ensures.value)
          (record { members = c.in_ok-group.ensures.members; distinct = c.in_ok-group.ensures.distinct });
      further = c.joined_ends-more.ensures;
    }) in
    let group =
    pair_values c.self-2.inside.graph c.self-2.inside.pairs c.self-2.inside.listeners c.self-2.inside.owners c.self-2.inside.behind
    c.args.self.now c.args.one c.args.other c.as_slice.result.now (c.self-2.view_is ∙ c.look.ensures.same) c.self-2.invariant none
    c.as_slice-names.result.now c.joined_ends-more.result.now joins (c.as_slice.ensures.value ∙ c.in_ok-values.ensures) in
    let under =
    under_pair c.self-2.inside.graph c.self-2.inside.pairs c.self-2.inside.listeners c.self-2.inside.owners c.self-2.inside.behind
    c.args.self.now c.join.new.graph c.join.new.pairs c.args.one c.args.other c.as_slice.result.now c.as_slice-names.result.now
    c.joined_ends-more.result.now c.in_ok-watch.watch.names.items
    c.push_two.new.names.items c.in_ok-watch.watch.heard.items c.in_ok-watch.watch.before.items c.args.work.now.evaluated
    c.look.new.work.evaluated (c.self-2.view_is ∙ c.look.ensures.same) c.self-2.invariant
    (record { watch = c.in_ok-watch.ensures.watch; look = c.in_ok-watch.ensures.look; few = c.look.ensures.cost }) joins
    c.in_ok-push_two.ensures group none
    c.in_ok-join.ensures.graph c.in_ok-join.ensures.pairs in
    c.finish.ensures.told (Pair c.args.one c.args.other) c.args.self.now c.join.new.pairs c.args.work.now.evaluated under
