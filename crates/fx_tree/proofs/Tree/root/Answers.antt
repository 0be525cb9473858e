use Rattle.fx_tree.proofs.Views.{IsSound-tree}
use Rattle.fx_tree.proofs.Tree.root.Goals as goal

pub returns-clause-sound : goal.returns-clause-sound
returns-clause-sound c = rw (← c.self.view_is) (IsSound-tree _ _ _ c.self.invariant)
