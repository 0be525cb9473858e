use Rattle.fx_listen.proofs.LivingLemmas.{living_in-removed}
use Rattle.fx_listen.proofs.laws.removals_are_of_the_living.Goals as goal

pub returns : goal.returns
returns c = living_in-removed
