use Rattle.std.proofs.Common.{refl}
use Rattle.fx_tree.proofs.Made.{nodes_in-nil, IsTree-nil}
use Rattle.fx_tree.proofs.Tree.new.Goals as goal

pub invariant_of-result : goal.invariant_of-result
invariant_of-result c = rw c.new.ensures.empty IsTree-nil

pub returns : goal.returns
returns c = rw (c.new.ensures.empty, nodes_in-nil) refl
