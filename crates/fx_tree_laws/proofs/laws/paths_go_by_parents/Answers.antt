use Rattle.fx_tree_laws.proofs.Paths.{path_alone, path_below}
use Rattle.fx_tree_laws.proofs.laws.paths_go_by_parents.Goals as goal

pub returns-clause-below : goal.returns-clause-below
returns-clause-below c = path_below

pub returns-clause-top : goal.returns-clause-top
returns-clause-top c = λ scene key none. path_alone scene.nodes key none
