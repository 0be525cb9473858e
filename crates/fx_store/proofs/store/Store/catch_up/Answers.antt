use Rattle.std.proofs.Common.{◌≡◌, ◌≤◌, ◌+◌, ℕ, false, List, All, sym, subst}
use Rattle.fx_listen.specs.declared.entries.Listener.{Listener}
use Rattle.fx_listen.specs.Listening.{living_in}
use Rattle.fx_graph_model.specs.Changes.{after_read_all}
use Rattle.fx_graph_model.specs.Unread.{evaluations_of}
use Rattle.fx_graph_model.specs.Uses.{unknown_in}
use Rattle.fx_store.specs.Watching.{watch_list}
use Rattle.fx_store.proofs.Lasting.{kept_read}
use Rattle.fx_store.proofs.QuietLemmas.{all_read_already, caught_up, kept_watch_known}
use Rattle.fx_store.proofs.Stepping.{kept_due}
use Rattle.fx_store.proofs.store.Store.catch_up.Goals as goal

pub returns-then-not-self-clause-ok : goal.returns-then-not-self-clause-ok
returns-then-not-self-clause-ok g c =
    rw (← c.self.view_is)
    (all_read_already c.self.inside.graph c.self.inside.pairs c.self.inside.listeners c.self.inside.owners c.self.inside.behind
    c.self.invariant c.if-not-self.true c.laws.ensures.closed)

pub read_watched-requires : goal.read_watched-requires
read_watched-requires g c =
    let live : List Listener = living_in c.self.inside.owners.living c.self.inside.listeners.entries in
    record {
      known = subst (λ (pairs : List (ℕ × ℕ)). All (λ (name : ℕ). unknown_in c.self.inside.graph.entries name ≡ false) (watch_list pairs live))
          (sym c.as_slice.ensures)
          (kept_watch_known c.self.inside.graph c.self.inside.pairs c.self.inside.listeners c.self.inside.owners c.self.inside.behind
          c.self.invariant);
    }

pub returns-in_err-read_watched-clause-cost : goal.returns-in_err-read_watched-clause-cost
returns-in_err-read_watched-clause-cost g c =
    let live : List Listener = living_in c.self.inside.owners.living c.self.inside.listeners.entries in
    let graph = c.self.inside.graph in
    let few =
    subst
    (λ (pairs : List (ℕ × ℕ)).
    c.read_watched.new.work.evaluated ≤ c.args.work.now.evaluated + evaluations_of graph.entries (watch_list pairs live) graph.unread)
    c.as_slice.ensures c.read_watched.ensures.cost in
    rw (← c.self.view_is)
    (subst (λ (n : ℕ). c.read_watched.new.work.evaluated ≤ c.args.work.now.evaluated + n)
    (kept_due graph c.self.inside.pairs c.self.inside.listeners c.self.inside.owners c.self.inside.behind c.self.invariant) few)

pub invariant_of-self-2 : goal.invariant_of-self-2
invariant_of-self-2 g c =
    let live : List Listener = living_in c.self.inside.owners.living c.self.inside.listeners.entries in
    kept_read c.self.inside.pairs c.self.inside.listeners c.self.inside.owners c.self.inside.graph c.read_watched.new.graph
    c.self.inside.behind (watch_list c.self.inside.pairs live) c.self.invariant (λ name listed. listed)
    (subst (λ (pairs : List (ℕ × ℕ)). c.read_watched.new.graph ≡ after_read_all (watch_list pairs live) c.self.inside.graph)
    c.as_slice.ensures c.in_ok-read_watched.ensures.ok)

pub returns-clause-ok : goal.returns-clause-ok
returns-clause-ok g c =
    let live : List Listener = living_in c.self.inside.owners.living c.self.inside.listeners.entries in
    rw (← c.self.view_is)
    (caught_up c.self.inside.graph c.read_watched.new.graph c.self.inside.pairs c.self.inside.listeners c.self.inside.owners
    c.self.inside.behind c.self.invariant
    (subst (λ (pairs : List (ℕ × ℕ)). c.read_watched.new.graph ≡ after_read_all (watch_list pairs live) c.self.inside.graph)
    c.as_slice.ensures c.in_ok-read_watched.ensures.ok))

pub returns-clause-cost : goal.returns-clause-cost
returns-clause-cost g c =
    let live : List Listener = living_in c.self.inside.owners.living c.self.inside.listeners.entries in
    let graph = c.self.inside.graph in
    let few =
    subst
    (λ (pairs : List (ℕ × ℕ)).
    c.read_watched.new.work.evaluated ≤ c.args.work.now.evaluated + evaluations_of graph.entries (watch_list pairs live) graph.unread)
    c.as_slice.ensures c.read_watched.ensures.cost in
    rw (← c.self.view_is)
    (subst (λ (n : ℕ). c.read_watched.new.work.evaluated ≤ c.args.work.now.evaluated + n)
    (kept_due graph c.self.inside.pairs c.self.inside.listeners c.self.inside.owners c.self.inside.behind c.self.invariant) few)
