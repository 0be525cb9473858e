use Rattle.fx_lookup.proofs.ResolvingLemmas.{any_steps}
use Rattle.fx_lookup.proofs.laws.more_steps_change_nothing.Goals as goal

pub returns : goal.returns
returns c = λ most chain name enough. any_steps most chain name enough
