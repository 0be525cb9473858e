use Rattle.fx_cascade.proofs.LawLemmas.{best-none}
use Rattle.fx_cascade.proofs.laws.none_speaks.Goals as goal

pub returns : goal.returns
returns c = best-none
