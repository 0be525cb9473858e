use Rattle.fx_tree_laws.proofs.Routes.{route_end}
use Rattle.fx_tree_laws.proofs.laws.routes_end_at_their_targets.Goals as goal

pub returns : goal.returns
returns c = λ scene on target alive. route_end scene.nodes on target alive
