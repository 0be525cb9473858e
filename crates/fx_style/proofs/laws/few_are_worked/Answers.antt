use Rattle.fx_style.proofs.CostLemmas.{few_worked}
use Rattle.fx_style.proofs.laws.few_are_worked.Goals as goal

pub returns : goal.returns
returns c = few_worked
