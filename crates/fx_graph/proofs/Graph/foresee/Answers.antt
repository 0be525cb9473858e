use Rattle.fx_graph.proofs.LookLemmas.{known_names}
use Rattle.fx_graph.proofs.Graph.foresee.Goals as goal

pub foresee-requires-clause-known : goal.foresee-requires-clause-known
foresee-requires-clause-known c = known_names _ _ (rw (← c.self.view_is) at c.requires)
