use Rattle.std.proofs.Common.{ℕ, List, ◌++◌, ap, ◌∙◌}
use Rattle.fx_base.specs.Names.{numbers}
use Rattle.fx_store_pairs.specs.Pairs.{pairs_of}
use Rattle.fx_store.specs.Watching.{ends_of}
use Rattle.fx_store.proofs.WatchLemmas.{numbers_heard}
use Rattle.fx_store.proofs.watching.watched_names.Goals as goal

pub returns : goal.returns
returns c =
    c.in_ok-push_ends.ensures
    ∙ ap (λ (ns : List ℕ). ns ++ ends_of (pairs_of c.args.pairs.now)) (ap numbers c.in_ok-names.ensures ∙ numbers_heard c.args.heard.now)
