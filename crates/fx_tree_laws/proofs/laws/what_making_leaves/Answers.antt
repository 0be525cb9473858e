use Rattle.fx_tree_laws.proofs.Making.{alive_after_make, children_after_make, parent_after_make, path_after_make}
use Rattle.fx_tree_laws.proofs.laws.what_making_leaves.Goals as goal

pub returns-clause-alive : goal.returns-clause-alive
returns-clause-alive c = alive_after_make

pub returns-clause-parent : goal.returns-clause-parent
returns-clause-parent c = parent_after_make

pub returns-clause-children : goal.returns-clause-children
returns-clause-children c = children_after_make

pub returns-clause-path : goal.returns-clause-path
returns-clause-path c = path_after_make
