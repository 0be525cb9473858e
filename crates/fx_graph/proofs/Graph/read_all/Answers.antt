use Rattle.fx_graph.proofs.LookLemmas.{known_names}
use Rattle.fx_graph.proofs.Graph.read_all.Goals as goal

pub read_each-requires-clause-known : goal.read_each-requires-clause-known
read_each-requires-clause-known g c = known_names _ _ (rw (← c.self.view_is) at c.requires)
