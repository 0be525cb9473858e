use Rattle.std.proofs.Common.{refl, ◌∙◌}
use Rattle.fx_tree.proofs.Made.{nodes_in-made, IsTree-made}
use Rattle.fx_tree.proofs.Tree.make.Goals as goal

pub invariant_of-self-2 : goal.invariant_of-self-2
invariant_of-self-2 c =
    let slot = c.in_ok-slot.ensures in
    IsTree-made _ _ _ _ _ _ c.self.invariant refl refl c.new.ensures slot.was_vacant slot.updates.changed slot.updates.others slot.len
    (λ e. c.if-len-eq-MOST_NODES.false (c.len.ensures ∙ e))

pub returns-clause-made : goal.returns-clause-made
returns-clause-made c =
    let slot = c.in_ok-slot.ensures in
    rw (← c.self.view_is, nodes_in-made _ _ _ _ _ _ c.self.invariant refl refl c.new.ensures slot.was_vacant slot.updates.changed slot.updates.others) refl
