use Rattle.std.proofs.Common.{sym, ◌∙◌}
use Rattle.fx_tree.proofs.Views.{parent-slots}
use Rattle.fx_tree.proofs.Tree.parent.Goals as goal

pub returns : goal.returns
returns c = rw (← c.self.view_is) (c.parent_in.ensures ∙ sym (parent-slots _ _ _ c.self.invariant c.args.key))
