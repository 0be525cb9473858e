use Rattle.std.proofs.Common.{◌∙◌, ap}
use Rattle.fx_tree.specs.Slots.{below_at, children_in}
use Rattle.fx_tree.proofs.nodes.children_in.Goals as goal

pub returns-in-None : goal.returns-in-None
unfolding below_at
returns-in-None c = ap children_in c.in-None.ensures

pub returns-in-Some : goal.returns-in-Some
unfolding below_at
returns-in-Some c = c.as_slice.ensures ∙ ap children_in c.in-Some.ensures
