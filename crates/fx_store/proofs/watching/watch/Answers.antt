use Rattle.std.proofs.Common.{ℕ, List, ◌++◌, append_assoc, ap, ◌∙◌}
use Rattle.std.proofs.lemmas.List.{append-nil}
use Rattle.fx_base.specs.declared.keys.Name.{Name}
use Rattle.fx_listen.specs.Listening.{living_in}
use Rattle.fx_store_pairs.specs.Pairs.{pairs_of}
use Rattle.fx_store.specs.Watching.{ends_of, names_of}
use Rattle.fx_store.proofs.WatchLemmas.{first_cost, first_known}
use Rattle.fx_store.proofs.watching.watch.Goals as goal

pub watch_on-requires : goal.watch_on-requires
watch_on-requires g c =
    record {
      known =
          first_known c.args.graph.now.entries (pairs_of c.args.pairs.now)
          (living_in c.args.owners.now.living c.args.listeners.now.entries) c.in_ok-heard.heard.items c.in_ok-heard.ensures c.requires.known;
    }

pub returns-in_err-watch-clause-cost : goal.returns-in_err-watch-clause-cost
returns-in_err-watch-clause-cost g c =
    first_cost c.args.graph.now.entries (pairs_of c.args.pairs.now)
    (living_in c.args.owners.now.living c.args.listeners.now.entries) c.in_ok-heard.heard.items c.args.graph.now.unread
    c.args.work.now.evaluated c.watch_on.new.work.evaluated c.in_ok-heard.ensures c.watch_on.ensures.cost

pub returns-in_err-push_ends-clause-cost : goal.returns-in_err-push_ends-clause-cost
returns-in_err-push_ends-clause-cost g c =
    first_cost c.args.graph.now.entries (pairs_of c.args.pairs.now)
    (living_in c.args.owners.now.living c.args.listeners.now.entries) c.in_ok-heard.heard.items c.args.graph.now.unread
    c.args.work.now.evaluated c.watch_on.new.work.evaluated c.in_ok-heard.ensures c.watch_on.ensures.cost

pub returns-clause-watch : goal.returns-clause-watch
returns-clause-watch g c =
    let ends = ends_of (pairs_of c.args.pairs.now) in
    let watch = c.in_ok-watch.ensures.watch in
    record {
      more = watch.more ++ ends;
      led = c.in_ok-push_ends.ensures ∙ ap (λ (ns : List ℕ). ns ++ ends) watch.led
          ∙ append_assoc (names_of c.in_ok-watch.watch.heard.items) watch.more ends;
      values = watch.values;
    }

pub returns-clause-whole : goal.returns-clause-whole
returns-clause-whole g c =
    let ends = ends_of (pairs_of c.args.pairs.now) in
    record {
      listening = c.in_ok-watch.ensures.heard ∙ c.in_ok-heard.ensures;
      watched = c.in_ok-push_ends.ensures
          ∙ ap (λ (ns : List ℕ). ns ++ ends) (c.in_ok-watch.ensures.names ∙ append-nil (names_of c.in_ok-heard.heard.items))
          ∙ ap (λ (ls : List (Name × ℕ)). names_of ls ++ ends) c.in_ok-heard.ensures;
    }

pub returns-clause-cost : goal.returns-clause-cost
returns-clause-cost g c =
    first_cost c.args.graph.now.entries (pairs_of c.args.pairs.now)
    (living_in c.args.owners.now.living c.args.listeners.now.entries) c.in_ok-heard.heard.items c.args.graph.now.unread
    c.args.work.now.evaluated c.watch_on.new.work.evaluated c.in_ok-heard.ensures c.watch_on.ensures.cost
