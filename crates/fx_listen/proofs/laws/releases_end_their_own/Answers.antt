use Rattle.fx_listen.proofs.LivingLemmas.{living_in-released}
use Rattle.fx_listen.proofs.laws.releases_end_their_own.Goals as goal

pub returns : goal.returns
returns c = living_in-released
