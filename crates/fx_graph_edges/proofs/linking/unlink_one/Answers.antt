use Rattle.fx_graph_edges.proofs.LinkLemmas.{row_written}
use Rattle.fx_graph_edges.proofs.linking.unlink_one.Goals as goal

pub returns-clause-set : goal.returns-clause-set
returns-clause-set c = row_written c.args.users.now c.args.place _ c.requires
