use Rattle.std.proofs.Common.{◌∙◌}
use Rattle.fx_store.proofs.AgainLemmas.{given_again}
use Rattle.fx_store.proofs.UnderLemmas.{set_unrefused, set_values}
use Rattle.fx_store.proofs.store.Store.give_again.Goals as goal

pub give-requires-clause-distinct : goal.give-requires-clause-distinct
give-requires-clause-distinct c =
    let s = c.self.inside in
    let group =
    set_values s.graph s.pairs s.listeners s.owners s.behind c.args.self.now c.args.name c.args.value.now
    c.as_slice.result.now
    c.self.view_is c.self.invariant c.requires.allowed
    (c.in_ok-values.ensures.0, c.in_ok-values.ensures.1, c.as_slice.ensures.value ∙ c.in_ok-values.ensures.2) in
    group.distinct

pub give-requires-clause-allowed : goal.give-requires-clause-allowed
give-requires-clause-allowed c =
    let s = c.self.inside in
    let group =
    set_values s.graph s.pairs s.listeners s.owners s.behind c.args.self.now c.args.name c.args.value.now
    c.as_slice.result.now
    c.self.view_is c.self.invariant c.requires.allowed
    (c.in_ok-values.ensures.0, c.in_ok-values.ensures.1, c.as_slice.ensures.value ∙ c.in_ok-values.ensures.2) in
    set_unrefused s.graph s.pairs s.listeners s.owners s.behind c.args.self.now c.args.name c.args.value.now
    c.as_slice.result.now
    c.self.view_is c.self.invariant c.requires.allowed group

pub invariant_of-self-2 : goal.invariant_of-self-2
invariant_of-self-2 c =
    let s = c.self.inside in
    let group =
    set_values s.graph s.pairs s.listeners s.owners s.behind c.args.self.now c.args.name c.args.value.now
    c.as_slice.result.now
    c.self.view_is c.self.invariant c.requires.allowed
    (c.in_ok-values.ensures.0, c.in_ok-values.ensures.1, c.as_slice.ensures.value ∙ c.in_ok-values.ensures.2) in
    (given_again s.graph s.pairs s.listeners s.owners s.behind c.self.invariant c.args.self.now c.give.new.graph
    c.args.name
    c.args.value.now c.as_slice.result.now c.self.view_is c.requires.allowed c.requires.same group
    c.in_ok-give.ensures.ok).holds

pub returns-clause-ok : goal.returns-clause-ok
returns-clause-ok c =
    let s = c.self.inside in
    let group =
    set_values s.graph s.pairs s.listeners s.owners s.behind c.args.self.now c.args.name c.args.value.now
    c.as_slice.result.now
    c.self.view_is c.self.invariant c.requires.allowed
    (c.in_ok-values.ensures.0, c.in_ok-values.ensures.1, c.as_slice.ensures.value ∙ c.in_ok-values.ensures.2) in
    (given_again s.graph s.pairs s.listeners s.owners s.behind c.self.invariant c.args.self.now c.give.new.graph
    c.args.name
    c.args.value.now c.as_slice.result.now c.self.view_is c.requires.allowed c.requires.same group
    c.in_ok-give.ensures.ok).whole

pub returns-clause-values : goal.returns-clause-values
returns-clause-values c =
    let s = c.self.inside in
    let group =
    set_values s.graph s.pairs s.listeners s.owners s.behind c.args.self.now c.args.name c.args.value.now
    c.as_slice.result.now
    c.self.view_is c.self.invariant c.requires.allowed
    (c.in_ok-values.ensures.0, c.in_ok-values.ensures.1, c.as_slice.ensures.value ∙ c.in_ok-values.ensures.2) in
    (given_again s.graph s.pairs s.listeners s.owners s.behind c.self.invariant c.args.self.now c.give.new.graph
    c.args.name
    c.args.value.now c.as_slice.result.now c.self.view_is c.requires.allowed c.requires.same group
    c.in_ok-give.ensures.ok).values
