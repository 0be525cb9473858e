use Rattle.std.proofs.Common.{subst}
use Rattle.fx_graph_model.specs.Changes.{State}
use Rattle.fx_graph_model.specs.Sound.{IsAcyclic}
use Rattle.fx_graph_model.proofs.Walks.{acyclic}
use Rattle.fx_graph.proofs.Graph.laws.Goals as goal

pub returns-clause-acyclic : goal.returns-clause-acyclic
returns-clause-acyclic c =
    subst (λ (s : State). IsAcyclic s.entries) c.self.view_is (acyclic _ c.self.invariant.ranks.0 c.self.invariant.ranks.1)
