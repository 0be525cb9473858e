use Rattle.fx_tree_laws.proofs.Routes.{short_route}
use Rattle.fx_tree_laws.proofs.laws.routes_are_short.Goals as goal

pub returns : goal.returns
returns c = λ scene on target. short_route scene.nodes on target
