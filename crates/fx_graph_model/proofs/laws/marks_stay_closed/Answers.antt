-- the law is a lemma
use Rattle.fx_graph_model.proofs.Changed.{closed_marking}
use Rattle.fx_graph_model.proofs.laws.marks_stay_closed.Goals as goal

pub returns : goal.returns
returns c = closed_marking
