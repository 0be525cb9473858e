-- the law is a lemma
use Rattle.fx_graph_model.proofs.Values.{eager-unfold}
use Rattle.fx_graph_model.proofs.laws.values_unfold.Goals as goal

pub returns : goal.returns
returns c = eager-unfold
