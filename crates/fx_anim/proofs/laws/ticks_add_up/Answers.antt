use Rattle.fx_anim.proofs.TickLemmas.{ticks_add_up}
use Rattle.fx_anim.proofs.laws.ticks_add_up.Goals as goal

pub returns : goal.returns
returns c = ticks_add_up
