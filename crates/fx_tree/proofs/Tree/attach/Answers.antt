use Rattle.std.proofs.Common.{refl, sym}
use Rattle.std.proofs.lemmas.Result.{err_from_is_err_and}
use Rattle.fx_tree.proofs.Views.{refusal-slots}
use Rattle.fx_tree.proofs.Changes.{allowed, IsTree-linked, nodes_in-linked}
use Rattle.fx_tree.proofs.Tree.attach.Goals as goal

pub returns-in-Some-clause-answer : goal.returns-in-Some-clause-answer
returns-in-Some-clause-answer c =
    rw (← c.self.view_is, ← refusal-slots _ _ _ c.self.invariant c.args.parent c.args.child c.args.place, ← c.in-Some.ensures) refl

pub link-requires-clause-parent_alive : goal.link-requires-clause-parent_alive
link-requires-clause-parent_alive c =
    (allowed c.self.inside.nodes.slots c.self.inside.root c.args.parent c.args.child c.args.place (sym c.in_default.ensures)).parent_alive

pub link-requires-clause-child_alive : goal.link-requires-clause-child_alive
link-requires-clause-child_alive c =
    (allowed c.self.inside.nodes.slots c.self.inside.root c.args.parent c.args.child c.args.place (sym c.in_default.ensures)).child_alive

pub link-requires-clause-place : goal.link-requires-clause-place
link-requires-clause-place c =
    (allowed c.self.inside.nodes.slots c.self.inside.root c.args.parent c.args.child c.args.place (sym c.in_default.ensures)).within

pub returns-in_err-link-clause-answer : goal.returns-in_err-link-clause-answer
returns-in_err-link-clause-answer c =
    let p = err_from_is_err_and c.from_residual.result c.from_residual.ensures.1 in
    rw (p.1, p.2, ← c.self.view_is, ← refusal-slots _ _ _ c.self.invariant c.args.parent c.args.child c.args.place, ← c.in_default.ensures) refl

pub invariant_of-self-2 : goal.invariant_of-self-2
invariant_of-self-2 c =
    IsTree-linked _ _ _ _ c.self.invariant c.args.parent c.args.child c.args.place
    (allowed c.self.inside.nodes.slots c.self.inside.root c.args.parent c.args.child c.args.place (sym c.in_default.ensures))
    c.in_ok-link.ensures.ok c.in_ok-link.ensures.len

pub returns-clause-answer : goal.returns-clause-answer
returns-clause-answer c =
    rw (← c.self.view_is, ← refusal-slots _ _ _ c.self.invariant c.args.parent c.args.child c.args.place, ← c.in_default.ensures) tt

pub returns-clause-ok : goal.returns-clause-ok
returns-clause-ok c =
    rw (← c.self.view_is, nodes_in-linked _ _ _ _ c.self.invariant c.args.parent c.args.child c.args.place c.in_ok-link.ensures.ok) refl
