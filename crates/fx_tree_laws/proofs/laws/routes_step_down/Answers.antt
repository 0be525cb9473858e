use Rattle.fx_tree_laws.proofs.Routes.{route_steps}
use Rattle.fx_tree_laws.proofs.laws.routes_step_down.Goals as goal

pub returns : goal.returns
returns c = route_steps
