use Rattle.std.proofs.Common.{refl, sym, ◌∙◌, ◌++◌, List, ap, reverse}
use Rattle.std.proofs.lemmas.Result.{err_from_is_err_and}
use Rattle.fx_base.specs.declared.keys.NodeKey.{NodeKey}
use Rattle.fx_tree.specs.Slots.{line_at}
use Rattle.fx_tree.proofs.Changes.{stale-dead, stale-alive}
use Rattle.fx_tree.proofs.Views.{line-slots}
use Rattle.fx_tree.proofs.Tree.path.Goals as goal

pub returns-then-not-is_live-clause-answer : goal.returns-then-not-is_live-clause-answer
returns-then-not-is_live-clause-answer c =
    rw (← c.self.view_is, stale-dead _ _ _ c.self.invariant c.args.key (sym c.if-not-is_live.ensures)) refl

pub returns-in_err-push_line-clause-answer : goal.returns-in_err-push_line-clause-answer
returns-in_err-push_line-clause-answer c =
    let p = err_from_is_err_and c.from_residual.result c.from_residual.ensures.1 in
    rw (p.1, p.2, ← c.self.view_is, stale-alive _ _ _ c.self.invariant c.args.key (sym c.if-not-is_live.ensures)) refl

pub returns-clause-answer : goal.returns-clause-answer
returns-clause-answer c =
    rw (← c.self.view_is, stale-alive _ _ _ c.self.invariant c.args.key (sym c.if-not-is_live.ensures)) tt

pub returns-clause-ok : goal.returns-clause-ok
returns-clause-ok c =
    rw (← c.self.view_is, line-slots _ _ _ c.self.invariant c.args.key)
    (c.reverse.ensures.items
    ∙ ap reverse (c.in_ok-push_line.ensures ∙ ap (λ (l : List NodeKey). l ++ line_at c.self.inside.nodes.slots c.args.key) c.new-keys.ensures.items))
