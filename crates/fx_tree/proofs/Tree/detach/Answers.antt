use Rattle.std.proofs.Common.{refl, sym}
use Rattle.fx_tree.proofs.Changes.{detach-stale, detach-none, detach-free, IsTree-unlinked, nodes_in-unlinked}
use Rattle.fx_tree.proofs.Tree.detach.Goals as goal

pub returns-then-not-is_live-clause-answer : goal.returns-then-not-is_live-clause-answer
returns-then-not-is_live-clause-answer c =
    rw (← c.self.view_is, detach-stale _ _ _ c.self.invariant c.args.child (sym c.if-not-is_live.ensures)) refl

pub returns-then-not-has_parent-clause-answer : goal.returns-then-not-has_parent-clause-answer
returns-then-not-has_parent-clause-answer c =
    rw (← c.self.view_is, detach-none _ _ _ c.self.invariant c.args.child (sym c.if-not-is_live.ensures) (sym c.if-not-has_parent.ensures)) refl

pub invariant_of-self : goal.invariant_of-self
invariant_of-self c = IsTree-unlinked _ _ _ _ c.self.invariant c.args.child c.unlink.ensures.unlinked c.unlink.ensures.len

pub returns-clause-answer : goal.returns-clause-answer
returns-clause-answer c =
    rw (← c.self.view_is, detach-free _ _ _ c.self.invariant c.args.child (sym c.if-not-is_live.ensures) (sym c.if-not-has_parent.ensures)) tt

pub returns-clause-ok : goal.returns-clause-ok
returns-clause-ok c =
    rw (← c.self.view_is, nodes_in-unlinked _ _ _ _ c.self.invariant c.args.child c.unlink.ensures.unlinked) refl
