use Rattle.fx_graph.proofs.LookLemmas.{known_names}
use Rattle.fx_graph.proofs.Graph.settle_all.Goals as goal

pub settle_each-requires-clause-known : goal.settle_each-requires-clause-known
settle_each-requires-clause-known g c = known_names _ _ (rw (← c.self.view_is) at c.requires)
