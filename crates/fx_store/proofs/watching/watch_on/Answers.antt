use Rattle.std.proofs.Common.{ℕ, ◌+◌, ◌≤◌, List, ◌++◌, ap, sym, subst, ◌∙◌}
use Rattle.std.proofs.lemmas.List.{map-append}
use Rattle.fx_base.specs.declared.keys.Name.{Name}
use Rattle.fx_base.specs.Names.{numbers}
use Rattle.fx_graph_model.specs.Unread.{evaluations_of}
use Rattle.fx_store.specs.Watching.{names_of}
use Rattle.fx_store.proofs.WatchLemmas.{first_is, first_values, known_names}
use Rattle.fx_store.proofs.watching.watch_on.Goals as goal

pub look_at-requires : goal.look_at-requires
look_at-requires g c =
    known_names c.args.graph.now.entries c.as_slice-2.result.now (names_of c.args.heard.items)
    (first_is c.args.heard.items c.as_slice.result.now c.in_ok-names.names.items c.as_slice-2.result.now c.as_slice.ensures.value
    c.in_ok-names.ensures c.as_slice-2.ensures.value)
    c.requires.known

pub returns-in_err-before-clause-cost : goal.returns-in_err-before-clause-cost
returns-in_err-before-clause-cost g c =
    let first = first_is c.args.heard.items c.as_slice.result.now c.in_ok-names.names.items c.as_slice-2.result.now c.as_slice.ensures.value
    c.in_ok-names.ensures c.as_slice-2.ensures.value in
    subst (λ (ns : List ℕ). c.look_at.new.work.evaluated ≤ c.args.work.now.evaluated
    + evaluations_of c.args.graph.now.entries ns c.args.graph.now.unread) first c.look_at.ensures.cost

pub returns-in_err-extend_from_slice-clause-cost : goal.returns-in_err-extend_from_slice-clause-cost
returns-in_err-extend_from_slice-clause-cost g c =
    let first = first_is c.args.heard.items c.as_slice.result.now c.in_ok-names.names.items c.as_slice-2.result.now c.as_slice.ensures.value
    c.in_ok-names.ensures c.as_slice-2.ensures.value in
    subst (λ (ns : List ℕ). c.look_at.new.work.evaluated ≤ c.args.work.now.evaluated
    + evaluations_of c.args.graph.now.entries ns c.args.graph.now.unread) first c.look_at.ensures.cost

pub returns-clause-watch : goal.returns-clause-watch
returns-clause-watch g c =
    let first = first_is c.args.heard.items c.as_slice.result.now c.in_ok-names.names.items c.as_slice-2.result.now c.as_slice.ensures.value
    c.in_ok-names.ensures c.as_slice-2.ensures.value in
    record {
      more = numbers c.args.more.now;
      led = ap numbers c.in_ok-extend_from_slice.ensures.items
          ∙ map-append (λ (name : Name). name.0) c.in_ok-names.names.items c.args.more.now
          ∙ ap (λ (ns : List ℕ). ns ++ numbers c.args.more.now) (ap numbers (sym c.as_slice-2.ensures.value) ∙ first);
      values =
          first_values c.args.graph.now.entries c.args.heard.items c.as_slice-2.result.now c.in_ok-before.before.items first
          c.in_ok-before.ensures.values;
    }

pub returns-clause-names : goal.returns-clause-names
returns-clause-names g c =
    let first = first_is c.args.heard.items c.as_slice.result.now c.in_ok-names.names.items c.as_slice-2.result.now c.as_slice.ensures.value
    c.in_ok-names.ensures c.as_slice-2.ensures.value in
    ap numbers c.in_ok-extend_from_slice.ensures.items
    ∙ map-append (λ (name : Name). name.0) c.in_ok-names.names.items c.args.more.now
    ∙ ap (λ (ns : List ℕ). ns ++ numbers c.args.more.now) (ap numbers (sym c.as_slice-2.ensures.value) ∙ first)

pub returns-clause-cost : goal.returns-clause-cost
returns-clause-cost g c =
    let first = first_is c.args.heard.items c.as_slice.result.now c.in_ok-names.names.items c.as_slice-2.result.now c.as_slice.ensures.value
    c.in_ok-names.ensures c.as_slice-2.ensures.value in
    subst (λ (ns : List ℕ). c.look_at.new.work.evaluated ≤ c.args.work.now.evaluated
    + evaluations_of c.args.graph.now.entries ns c.args.graph.now.unread) first c.look_at.ensures.cost
