use Rattle.fx_tree_laws.proofs.Subtrees.{subtree_holds}
use Rattle.fx_tree_laws.proofs.laws.subtrees_are_what_is_within.Goals as goal

pub returns : goal.returns
returns c = subtree_holds
