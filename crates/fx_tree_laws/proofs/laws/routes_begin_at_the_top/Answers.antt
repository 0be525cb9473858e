use Rattle.fx_tree_laws.proofs.Routes.{route_root, route_top}
use Rattle.fx_tree_laws.proofs.laws.routes_begin_at_the_top.Goals as goal

pub returns-clause-top : goal.returns-clause-top
returns-clause-top c = route_top

pub returns-clause-root : goal.returns-clause-root
returns-clause-root c = route_root
