use Rattle.fx_tree_laws.proofs.Paths.{one_path}
use Rattle.fx_tree_laws.proofs.laws.paths_differ.Goals as goal

pub returns : goal.returns
returns c = λ scene one other same. one_path scene.nodes one other same
