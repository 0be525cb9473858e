use Rattle.fx_listen.proofs.History.{pruning_is_silent}
use Rattle.fx_listen.proofs.laws.pruning_is_silent.Goals as goal

pub returns : goal.returns
returns c = pruning_is_silent
