use Rattle.fx_tree_laws.proofs.Attaching.{alive_attached, children_attached, free, parent_after_attach, path_after_attach}
use Rattle.fx_tree_laws.proofs.laws.what_attaching_leaves.Goals as goal

pub returns-clause-alive : goal.returns-clause-alive
returns-clause-alive c = λ scene parent child place key. alive_attached parent child place scene.nodes key

pub returns-clause-parent : goal.returns-clause-parent
returns-clause-parent c = λ scene parent child place sound allowed key.
    parent_after_attach scene sound parent child place (free scene parent child place allowed) key

pub returns-clause-children : goal.returns-clause-children
returns-clause-children c = λ scene parent child place key. children_attached parent child place scene.nodes key

pub returns-clause-path : goal.returns-clause-path
returns-clause-path c = λ scene parent child place sound allowed key.
    path_after_attach scene sound parent child place (free scene parent child place allowed) key
