use Rattle.fx_tree.proofs.History.{dead_stay_dead}
use Rattle.fx_tree.proofs.dead_nodes_stay_dead.Goals as goal

pub returns : goal.returns
returns c = dead_stay_dead
