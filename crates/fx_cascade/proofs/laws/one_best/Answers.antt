use Rattle.fx_cascade.proofs.LawLemmas.{one-best}
use Rattle.fx_cascade.proofs.laws.one_best.Goals as goal

pub returns : goal.returns
returns c = one-best
