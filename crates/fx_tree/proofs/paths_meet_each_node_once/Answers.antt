use Rattle.fx_tree.proofs.Walks.{paths_meet_once}
use Rattle.fx_tree.proofs.paths_meet_each_node_once.Goals as goal

pub returns : goal.returns
returns c = paths_meet_once
