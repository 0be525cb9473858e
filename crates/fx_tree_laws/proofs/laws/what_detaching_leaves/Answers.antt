use Rattle.fx_tree_laws.proofs.Detaching.{alive_detached, children_detached, parent_after_detach, path_cut, path_uncut}
use Rattle.fx_tree_laws.proofs.laws.what_detaching_leaves.Goals as goal

pub returns-clause-alive : goal.returns-clause-alive
returns-clause-alive c = λ scene child key. alive_detached child scene.nodes key

pub returns-clause-parent : goal.returns-clause-parent
returns-clause-parent c = λ scene child key. parent_after_detach child scene.nodes key

pub returns-clause-children : goal.returns-clause-children
returns-clause-children c = λ scene child key. children_detached child scene.nodes key

pub returns-clause-path_within : goal.returns-clause-path_within
returns-clause-path_within c = λ scene parent child sound is key within. path_cut scene sound child parent key is within

pub returns-clause-path_outside : goal.returns-clause-path_outside
returns-clause-path_outside c = λ scene child sound key apart. path_uncut scene sound child key apart
