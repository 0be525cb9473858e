use Rattle.std.proofs.Common.{refl, sym}
use Rattle.fx_tree.proofs.Changes.{drop-stale, drop-parent, drop-root, drop-free, IsTree-pruned, nodes_in-pruned}
use Rattle.fx_tree.proofs.Views.{none_from}
use Rattle.fx_tree.proofs.Tree.drop_tree.Goals as goal

pub returns-then-not-is_live-clause-answer : goal.returns-then-not-is_live-clause-answer
returns-then-not-is_live-clause-answer c =
    rw (← c.self.view_is, drop-stale _ _ _ c.self.invariant c.args.key (sym c.if-not-is_live.ensures)) refl

pub returns-then-has_parent-clause-answer : goal.returns-then-has_parent-clause-answer
returns-then-has_parent-clause-answer c =
    rw (← c.self.view_is, drop-parent _ _ _ c.self.invariant c.args.key (sym c.if-not-is_live.ensures) (sym c.if-has_parent.ensures)) refl

pub returns-then-is_key-clause-answer : goal.returns-then-is_key-clause-answer
returns-then-is_key-clause-answer c =
    rw (← c.self.view_is, drop-root _ _ _ c.self.invariant c.args.key (sym c.if-not-is_live.ensures) (sym c.if-has_parent.ensures) (sym c.if-is_key.ensures)) refl

pub prune-requires-clause-forest : goal.prune-requires-clause-forest
prune-requires-clause-forest c = c.self.invariant.forest

pub prune-requires-clause-topmost : goal.prune-requires-clause-topmost
prune-requires-clause-topmost c = none_from _ (sym c.if-has_parent.ensures)

pub invariant_of-self : goal.invariant_of-self
invariant_of-self c = IsTree-pruned _ _ _ _ c.self.invariant c.args.key (sym c.if-is_key.ensures) c.prune.ensures

pub returns-clause-answer : goal.returns-clause-answer
returns-clause-answer c =
    rw (← c.self.view_is, drop-free _ _ _ c.self.invariant c.args.key (sym c.if-not-is_live.ensures) (sym c.if-has_parent.ensures) (sym c.if-is_key.ensures)) tt

pub returns-clause-ok : goal.returns-clause-ok
returns-clause-ok c =
    rw (← c.self.view_is, nodes_in-pruned _ _ _ _ c.self.invariant c.args.key c.prune.ensures) refl
