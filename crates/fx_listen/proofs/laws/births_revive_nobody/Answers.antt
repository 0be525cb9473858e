use Rattle.fx_listen.proofs.LivingLemmas.{living_in-made}
use Rattle.fx_listen.proofs.laws.births_revive_nobody.Goals as goal

pub returns : goal.returns
returns c = living_in-made
