use Rattle.std.proofs.Common.{◌≡◌, ◌-◌, ◌+◌, ◌++◌, ◌∷◌, [], List, Option, refl, sym, ◌∙◌, ap, append_assoc}
use Rattle.std.proofs.lemmas.List.{append-nil}
use Rattle.fx_base.specs.declared.keys.NodeKey.{NodeKey}
use Rattle.fx_tree.specs.Scene.{line, line_in, parent_of}
use Rattle.fx_tree.proofs.Lines.{walk_none, walk_some, walk_end}
use Rattle.fx_events.proofs.routes.push_line.Goals as goal

pub loop-step-init : goal.loop-step-init
unfolding line
loop-step-init c = refl

pub returns-in-None : goal.returns-in-None
returns-in-None c =
    sym
    (ap (λ (l : List NodeKey). c.loop-step.nodes.items ++ l) (walk_none (parent_of c.args.tree.now.nodes) c.loop-step._step c.loop-step.at c.in-None.is)
    ∙ append-nil c.loop-step.nodes.items)
    ∙ c.loop-step.invariant

pub loop-step-preserved : goal.loop-step-preserved
loop-step-preserved c =
    let up = parent_of c.args.tree.now.nodes in
    let nodes = c.loop-step.nodes.items in
    let tail = line_in (64 - (c.loop-step._step + 1)) up (up c.in-Some.here) in
    let joined : (nodes ++ c.in-Some.here ∷ []) ++ tail ≡ nodes ++ c.in-Some.here ∷ tail = rw append_assoc refl in
    ap (λ (l : List NodeKey). l ++ line_in (64 - (c.loop-step._step + 1)) up c.parent-at.result) c.in_ok-push.ensures.ok
    ∙ ap (λ (o : Option NodeKey). (nodes ++ c.in-Some.here ∷ []) ++ line_in (64 - (c.loop-step._step + 1)) up o) c.parent-at.ensures
    ∙ joined
    ∙ sym (ap (λ (l : List NodeKey). nodes ++ l) (walk_some up c.loop-step._step c.loop-step.at c.in-Some.here c.in-Some.is c.loop-step-test.true))
    ∙ c.loop-step.invariant

pub returns : goal.returns
returns c =
    sym
    (ap (λ (l : List NodeKey). c.loop-step.nodes.items ++ l) (walk_end (parent_of c.args.tree.now.nodes) c.loop-step._step c.loop-step.at c.loop-step-test.false)
    ∙ append-nil c.loop-step.nodes.items)
    ∙ c.loop-step.invariant
