-- the law is a lemma
use Rattle.fx_graph_model.proofs.KindLemmas.{eager_sound}
use Rattle.fx_graph_model.proofs.laws.values_have_their_kinds.Goals as goal

pub returns : goal.returns
returns c = eager_sound
