use Rattle.std.proofs.Common.{refl, sym}
use Rattle.fx_tree.proofs.Changes.{root-stale, root-parent, root-attached, root-free, IsTree-rooted}
use Rattle.fx_tree.proofs.Tree.set_root.Goals as goal

pub returns-then-not-is_live-clause-answer : goal.returns-then-not-is_live-clause-answer
returns-then-not-is_live-clause-answer c =
    rw (← c.self.view_is, root-stale _ _ _ c.self.invariant c.args.key (sym c.if-not-is_live.ensures)) refl

pub returns-then-has_parent-clause-answer : goal.returns-then-has_parent-clause-answer
returns-then-has_parent-clause-answer c =
    rw (← c.self.view_is, root-parent _ _ _ c.self.invariant c.args.key (sym c.if-not-is_live.ensures) (sym c.if-has_parent.ensures)) refl

pub returns-then-is_some-clause-answer : goal.returns-then-is_some-clause-answer
returns-then-is_some-clause-answer c =
    rw (← c.self.view_is, root-attached _ _ _ c.self.invariant c.args.key (sym c.if-not-is_live.ensures) (sym c.if-has_parent.ensures) (sym c.if-is_some.ensures)) refl

pub invariant_of-self : goal.invariant_of-self
invariant_of-self c = IsTree-rooted _ _ _ c.self.invariant c.args.key (sym c.if-not-is_live.ensures) (sym c.if-has_parent.ensures)

pub returns-clause-answer : goal.returns-clause-answer
returns-clause-answer c =
    rw (← c.self.view_is, root-free _ _ _ c.self.invariant c.args.key (sym c.if-not-is_live.ensures) (sym c.if-has_parent.ensures) (sym c.if-is_some.ensures)) tt
