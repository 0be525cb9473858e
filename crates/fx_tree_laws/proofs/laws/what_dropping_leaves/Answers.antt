use Rattle.fx_tree_laws.proofs.Dropping.{alive_after_drop, children_after_drop, listed_after_drop, loose, parent_after_drop, path_after_drop}
use Rattle.fx_tree_laws.proofs.laws.what_dropping_leaves.Goals as goal

pub returns-clause-alive : goal.returns-clause-alive
returns-clause-alive c = λ scene top key. alive_after_drop scene top key

pub returns-clause-listed : goal.returns-clause-listed
returns-clause-listed c = λ scene top sound key. listed_after_drop scene top sound key

pub returns-clause-parent : goal.returns-clause-parent
returns-clause-parent c = λ scene top sound allowed key. parent_after_drop scene top sound (loose scene top allowed).topmost key

pub returns-clause-children : goal.returns-clause-children
returns-clause-children c = λ scene top key. children_after_drop scene top key

pub returns-clause-path : goal.returns-clause-path
returns-clause-path c = λ scene top sound allowed key apart.
    path_after_drop scene top sound (loose scene top allowed).topmost key apart
