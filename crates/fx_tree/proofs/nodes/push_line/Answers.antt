use Rattle.std.proofs.Common.{◌≡◌, ◌-◌, ◌+◌, ◌++◌, ◌∷◌, [], List, Option, refl, sym, ◌∙◌, ap, append_assoc}
use Rattle.std.proofs.lemmas.List.{append-nil}
use Rattle.fx_base.specs.declared.keys.NodeKey.{NodeKey}
use Rattle.fx_tree.specs.Scene.{line_in}
use Rattle.fx_tree.specs.Slots.{up_at}
use Rattle.fx_tree.proofs.Lines.{walk_none, walk_some, walk_end}
use Rattle.fx_tree.proofs.nodes.push_line.Goals as goal

pub returns-in-None : goal.returns-in-None
returns-in-None c =
    sym (ap (λ (l : List NodeKey). c.loop-step.keys.items ++ l) (walk_none (up_at c.args.nodes.now.slots) c.loop-step._step c.loop-step.at c.in-None.is) ∙ append-nil c.loop-step.keys.items)
    ∙ c.loop-step.invariant

pub loop-step-preserved : goal.loop-step-preserved
loop-step-preserved c =
    let up = up_at c.args.nodes.now.slots in
    let keys = c.loop-step.keys.items in
    let tail = line_in (64 - (c.loop-step._step + 1)) up (up c.in-Some.here) in
    let joined : (keys ++ c.in-Some.here ∷ []) ++ tail ≡ keys ++ c.in-Some.here ∷ tail = rw append_assoc refl in
    ap (λ (l : List NodeKey). l ++ line_in (64 - (c.loop-step._step + 1)) up c.parent_in-at.result) c.in_ok-push.ensures.items
    ∙ ap (λ (o : Option NodeKey). (keys ++ c.in-Some.here ∷ []) ++ line_in (64 - (c.loop-step._step + 1)) up o) c.parent_in-at.ensures
    ∙ joined
    ∙ sym (ap (λ (l : List NodeKey). keys ++ l) (walk_some up c.loop-step._step c.loop-step.at c.in-Some.here c.in-Some.is c.loop-step-test.true))
    ∙ c.loop-step.invariant

pub returns : goal.returns
returns c =
    sym (ap (λ (l : List NodeKey). c.loop-step.keys.items ++ l) (walk_end (up_at c.args.nodes.now.slots) c.loop-step._step c.loop-step.at c.loop-step-test.false) ∙ append-nil c.loop-step.keys.items)
    ∙ c.loop-step.invariant
