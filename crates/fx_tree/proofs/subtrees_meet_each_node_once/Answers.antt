use Rattle.fx_tree.proofs.Walks.{subtrees_meet_once}
use Rattle.fx_tree.proofs.subtrees_meet_each_node_once.Goals as goal

pub returns : goal.returns
returns c = subtrees_meet_once
