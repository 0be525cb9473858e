use Rattle.std.proofs.Common.{sym, ◌∙◌}
use Rattle.fx_tree.proofs.Views.{alive-slots}
use Rattle.fx_tree.proofs.Tree.is_alive.Goals as goal

pub returns : goal.returns
returns c = rw (← c.self.view_is) (c.is_live.ensures ∙ sym (alive-slots _ _ _ c.self.invariant c.args.key))
