use Rattle.std.proofs.Common.{◌-◌, ◌+◌, ◌||◌, List, Option, Bool, sym, ◌∙◌, ap}
use Rattle.fx_base.specs.declared.keys.NodeKey.{NodeKey}
use Rattle.fx_tree.specs.Scene.{line_in, has}
use Rattle.fx_tree.specs.Slots.{up_at}
use Rattle.fx_tree.proofs.Keys.{has-nil, has-cons}
use Rattle.fx_tree.proofs.Lines.{walk_none, walk_some, walk_end}
use Rattle.fx_tree.proofs.nodes.stands_within.Goals as goal

pub returns-in-None : goal.returns-in-None
returns-in-None c =
    sym (ap (λ (l : List NodeKey). has l c.args.upper) (walk_none (up_at c.args.nodes.now.slots) c.loop-step._step c.loop-step.at c.in-None.is) ∙ has-nil c.args.upper)
    ∙ c.loop-step.invariant

pub returns-then-same_key : goal.returns-then-same_key
returns-then-same_key c =
    let up = up_at c.args.nodes.now.slots in
    let tail = line_in (64 - (c.loop-step._step + 1)) up (up c.in-Some.here) in
    sym
    (ap (λ (l : List NodeKey). has l c.args.upper) (walk_some up c.loop-step._step c.loop-step.at c.in-Some.here c.in-Some.is c.loop-step-test.true)
    ∙ has-cons c.in-Some.here tail c.args.upper
    ∙ ap (λ (b : Bool). b || has tail c.args.upper) (sym c.if-same_key.ensures))
    ∙ c.loop-step.invariant

pub loop-step-preserved : goal.loop-step-preserved
loop-step-preserved c =
    let up = up_at c.args.nodes.now.slots in
    let tail = line_in (64 - (c.loop-step._step + 1)) up (up c.in-Some.here) in
    ap (λ (o : Option NodeKey). has (line_in (64 - (c.loop-step._step + 1)) up o) c.args.upper) c.parent_in-at.ensures
    ∙ sym
    (ap (λ (l : List NodeKey). has l c.args.upper) (walk_some up c.loop-step._step c.loop-step.at c.in-Some.here c.in-Some.is c.loop-step-test.true)
    ∙ has-cons c.in-Some.here tail c.args.upper
    ∙ ap (λ (b : Bool). b || has tail c.args.upper) (sym c.if-same_key.ensures))
    ∙ c.loop-step.invariant

pub returns : goal.returns
returns c =
    sym (ap (λ (l : List NodeKey). has l c.args.upper) (walk_end (up_at c.args.nodes.now.slots) c.loop-step._step c.loop-step.at c.loop-step-test.false) ∙ has-nil c.args.upper)
    ∙ c.loop-step.invariant
