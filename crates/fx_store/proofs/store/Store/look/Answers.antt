use Rattle.std.proofs.Common.{◌≡◌, ◌≤◌, ◌+◌, ℕ, false, List, ◌++◌, All, inr, sym, ap, subst, ◌∙◌}
use Rattle.fx_base.specs.declared.keys.Name.{Name}
use Rattle.fx_base.specs.Names.{numbers}
use Rattle.fx_listen.specs.declared.entries.Listener.{Listener}
use Rattle.fx_listen.specs.declared.entries.ListenKind.TheVariants.{Change}
use Rattle.fx_listen.specs.Listening.{living_in}
use Rattle.fx_graph_model.specs.Changes.{State}
use Rattle.fx_graph_model.specs.Unread.{evaluations_of, newly_marked}
use Rattle.fx_graph_model.specs.Uses.{unknown_in}
use Rattle.fx_store_model.specs.Stored.{Stored}
use Rattle.fx_store.specs.Looking.{IsLook}
use Rattle.fx_store.specs.Watching.{heard_on, names_of, watch_list}
use Rattle.fx_store.proofs.Looked.{near_cost, near_known}
use Rattle.fx_store.proofs.Staying.{known_living}
use Rattle.fx_store.proofs.Stepping.{kept_due}
use Rattle.fx_store.proofs.StoreLemmas.{living_sound}
use Rattle.fx_store.proofs.Watched.{watch_known}
use Rattle.fx_store.proofs.store.Store.look.Goals as goal

pub watch-requires : goal.watch-requires
watch-requires g c =
    let live : List Listener = living_in c.self.inside.owners.living c.self.inside.listeners.entries in
    record {
      known = subst (λ (pairs : List (ℕ × ℕ)). All (λ (name : ℕ). unknown_in c.self.inside.graph.entries name ≡ false) (watch_list pairs live))
          (sym c.as_slice.ensures)
          (watch_known c.self.inside.graph.entries c.self.inside.pairs live c.self.invariant.twins
          (known_living c.self.inside.graph.entries c.self.inside.owners.living c.self.inside.listeners.entries c.self.invariant.known));
    }

pub returns-then-self-clause-cost : goal.returns-then-self-clause-cost
returns-then-self-clause-cost g c =
    let live : List Listener = living_in c.self.inside.owners.living c.self.inside.listeners.entries in
    let graph = c.self.inside.graph in
    let few =
    subst
    (λ (pairs : List (ℕ × ℕ)).
    c.watch.new.work.evaluated ≤ c.args.work.now.evaluated + evaluations_of graph.entries (watch_list pairs live) graph.unread)
    c.as_slice.ensures c.watch.ensures.cost in
    rw (← c.self.view_is)
    (subst (λ (n : ℕ). c.watch.new.work.evaluated ≤ c.args.work.now.evaluated + n)
    (kept_due graph c.self.inside.pairs c.self.inside.listeners c.self.inside.owners c.self.inside.behind c.self.invariant) few)

pub watch_on-requires : goal.watch_on-requires
watch_on-requires g c =
    let graph = c.self.inside.graph in
    let live : List Listener = living_in c.self.inside.owners.living c.self.inside.listeners.entries in
    let heard = c.in_ok-heard.heard.items in
    let names : List ℕ = newly_marked graph.entries (numbers c.args.changing.now) graph.unread in
    let listening : heard ≡ heard_on Change names live =
    c.in_ok-heard.ensures ∙ ap (λ (ns : List ℕ). heard_on Change ns live) (c.newly.ensures ∙ ap (λ (s : State). s.newly) c.foresee.ensures) in
    let known = known_living graph.entries c.self.inside.owners.living c.self.inside.listeners.entries c.self.invariant.known in
    record {
      known = subst (λ (s : State). All (λ (name : ℕ). unknown_in s.entries name ≡ false) (names_of heard)) (sym c.foresee.ensures)
          (near_known graph.entries live known names heard listening);
    }

pub returns-in_err-watch-clause-cost : goal.returns-in_err-watch-clause-cost
returns-in_err-watch-clause-cost g c =
    let graph = c.self.inside.graph in
    let live : List Listener = living_in c.self.inside.owners.living c.self.inside.listeners.entries in
    let heard = c.in_ok-heard.heard.items in
    let names : List ℕ = newly_marked graph.entries (numbers c.args.changing.now) graph.unread in
    let listening : heard ≡ heard_on Change names live =
    c.in_ok-heard.ensures ∙ ap (λ (ns : List ℕ). heard_on Change ns live) (c.newly.ensures ∙ ap (λ (s : State). s.newly) c.foresee.ensures) in
    let spent : c.watch_on.new.work.evaluated ≤ c.args.work.now.evaluated + evaluations_of graph.entries (names_of heard) graph.unread =
    subst (λ (s : State). c.watch_on.new.work.evaluated ≤ c.args.work.now.evaluated + evaluations_of s.entries (names_of heard) s.unread)
    c.foresee.ensures c.watch_on.ensures.cost in
    rw (← c.self.view_is)
    (subst (λ (n : ℕ). c.watch_on.new.work.evaluated ≤ c.args.work.now.evaluated + n)
    (kept_due graph c.self.inside.pairs c.self.inside.listeners c.self.inside.owners c.self.inside.behind c.self.invariant)
    (near_cost graph.entries c.self.inside.pairs live graph.unread names heard c.args.work.now.evaluated c.watch_on.new.work.evaluated
    listening spent))

pub returns-clause-look : goal.returns-clause-look
returns-clause-look g c =
    let graph = c.self.inside.graph in
    let live : List Listener = living_in c.self.inside.owners.living c.self.inside.listeners.entries in
    let heard = c.in_ok-heard.heard.items in
    let names : List ℕ = newly_marked graph.entries (numbers c.args.changing.now) graph.unread in
    let listening : heard ≡ heard_on Change names live =
    c.in_ok-heard.ensures ∙ ap (λ (ns : List ℕ). heard_on Change ns live) (c.newly.ensures ∙ ap (λ (s : State). s.newly) c.foresee.ensures) in
    let look : IsLook graph.entries graph.unread c.self.inside.pairs live (numbers c.args.changing.now) (numbers c.args.more.now)
    c.in_ok-watch.watch.heard.items c.in_ok-watch.watch.names.items =
    inr (record {
      ranks = c.laws.ensures.ranked;
      flags = c.laws.ensures.flags;
      sorted = (living_sound c.self.inside.owners.living c.self.inside.listeners c.laws-2.ensures).sorted;
      read = c.self.invariant.watched c.if-self.false;
      listening = c.in_ok-watch.ensures.heard ∙ listening;
      watched = c.in_ok-watch.ensures.names
          ∙ ap (λ (ls : List (Name × ℕ)). names_of ls ++ numbers c.args.more.now) (sym c.in_ok-watch.ensures.heard);
    }) in
    subst (λ (stored : Stored). IsLook stored.entries stored.unread stored.pairs stored.listeners (numbers c.args.changing.now)
    (numbers c.args.more.now) c.in_ok-watch.watch.heard.items c.in_ok-watch.watch.names.items) c.self.view_is look

pub returns-clause-cost : goal.returns-clause-cost
returns-clause-cost g c =
    let graph = c.self.inside.graph in
    let live : List Listener = living_in c.self.inside.owners.living c.self.inside.listeners.entries in
    let heard = c.in_ok-heard.heard.items in
    let names : List ℕ = newly_marked graph.entries (numbers c.args.changing.now) graph.unread in
    let listening : heard ≡ heard_on Change names live =
    c.in_ok-heard.ensures ∙ ap (λ (ns : List ℕ). heard_on Change ns live) (c.newly.ensures ∙ ap (λ (s : State). s.newly) c.foresee.ensures) in
    let spent : c.watch_on.new.work.evaluated ≤ c.args.work.now.evaluated + evaluations_of graph.entries (names_of heard) graph.unread =
    subst (λ (s : State). c.watch_on.new.work.evaluated ≤ c.args.work.now.evaluated + evaluations_of s.entries (names_of heard) s.unread)
    c.foresee.ensures c.watch_on.ensures.cost in
    rw (← c.self.view_is)
    (subst (λ (n : ℕ). c.watch_on.new.work.evaluated ≤ c.args.work.now.evaluated + n)
    (kept_due graph c.self.inside.pairs c.self.inside.listeners c.self.inside.owners c.self.inside.behind c.self.invariant)
    (near_cost graph.entries c.self.inside.pairs live graph.unread names heard c.args.work.now.evaluated c.watch_on.new.work.evaluated
    listening spent))
