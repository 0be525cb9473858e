use Rattle.std.proofs.Common.{ap}
use Rattle.fx_tree.specs.Slots.{up_at, parent_in}
use Rattle.fx_tree.proofs.nodes.parent_in.Goals as goal

pub returns-in-None : goal.returns-in-None
unfolding up_at
returns-in-None c = ap parent_in c.in-None.ensures

pub returns-in-Some : goal.returns-in-Some
unfolding up_at
returns-in-Some c = ap parent_in c.in-Some.ensures
