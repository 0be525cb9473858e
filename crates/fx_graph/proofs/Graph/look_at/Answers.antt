use Rattle.fx_graph.proofs.LookLemmas.{known_names}
use Rattle.fx_graph.proofs.Graph.look_at.Goals as goal

pub look_at_each-requires-clause-known : goal.look_at_each-requires-clause-known
look_at_each-requires-clause-known g c = known_names _ _ (rw (← c.self.view_is) at c.requires)
