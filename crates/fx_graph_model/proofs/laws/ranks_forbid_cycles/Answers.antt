-- the law is a lemma
use Rattle.fx_graph_model.proofs.Walks.{acyclic}
use Rattle.fx_graph_model.proofs.laws.ranks_forbid_cycles.Goals as goal

pub returns : goal.returns
returns c = acyclic
