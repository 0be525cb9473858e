use Rattle.fx_listen.proofs.Finding.{lives_as_contained}
use Rattle.fx_listen.proofs.entries.has_life.Goals as goal

pub returns-in-Some : goal.returns-in-Some
returns-in-Some c = rw c.in-Some.is (lives_as_contained _ _ _ c.is_live.ensures.alive)
