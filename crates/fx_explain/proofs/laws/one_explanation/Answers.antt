use Rattle.fx_explain.proofs.OrderLemmas.{one-explanation}
use Rattle.fx_explain.proofs.laws.one_explanation.Goals as goal

pub returns : goal.returns
returns c = one-explanation
