use Rattle.fx_damage.proofs.OutsideLemmas.{same_outside}
use Rattle.fx_damage.proofs.same_outside.Goals as goal

pub returns : goal.returns
returns c = same_outside
