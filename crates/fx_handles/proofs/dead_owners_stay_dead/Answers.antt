use Rattle.fx_handles.proofs.History.{dead_stay_dead}
use Rattle.fx_handles.proofs.dead_owners_stay_dead.Goals as goal

pub returns : goal.returns
returns c = dead_stay_dead
