use Rattle.fx_graph_edges.proofs.NewlyLemmas.{fits_moved}
use Rattle.fx_graph_edges.proofs.newly.list_newly.Goals as goal

pub write_names-requires-clause-few : goal.write_names-requires-clause-few
write_names-requires-clause-few c =
    fits_moved c.args.work.now _ c.args.count c.requires.listed c.requires.few c.sort_front.ensures.moved
