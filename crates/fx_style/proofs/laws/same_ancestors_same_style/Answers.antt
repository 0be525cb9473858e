use Rattle.fx_style.proofs.ChainLaws.{same_chain}
use Rattle.fx_style.proofs.laws.same_ancestors_same_style.Goals as goal

pub returns : goal.returns
returns c = same_chain
