use Rattle.std.proofs.Common.{ap, ◌∙◌}
use Rattle.fx_listen.specs.Listening.{living_in}
use Rattle.fx_base.specs.Names.{numbers}
use Rattle.fx_store_pairs.specs.Pairs.{pairs_of}
use Rattle.fx_store.specs.Watching.{watch_list}
use Rattle.fx_store.proofs.WatchLemmas.{known_names, watch_is}
use Rattle.fx_store.proofs.watching.read_watched.Goals as goal

pub settle_all-requires : goal.settle_all-requires
settle_all-requires g c =
    let pairs = pairs_of c.args.pairs.now in
    let living = living_in c.args.owners.now.living c.args.listeners.now.entries in
    known_names c.args.graph.now.entries c.as_slice-2.result.now (watch_list pairs living)
    (ap numbers c.as_slice-2.ensures.value
    ∙ watch_is pairs living c.in_ok-heard.heard.items c.as_slice.result.now c.in_ok-names.names.items c.in_ok-heard.ensures
    c.as_slice.ensures.value c.in_ok-names.ensures)
    c.requires.known
