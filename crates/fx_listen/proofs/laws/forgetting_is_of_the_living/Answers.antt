use Rattle.fx_listen.proofs.LivingLemmas.{living_in-forgotten}
use Rattle.fx_listen.proofs.laws.forgetting_is_of_the_living.Goals as goal

pub returns : goal.returns
returns c = living_in-forgotten
