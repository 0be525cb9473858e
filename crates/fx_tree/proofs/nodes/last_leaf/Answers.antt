use Rattle.std.proofs.Common.{◌-◌, Some, List, sym, ◌∙◌, ap, arith, length, get_or}
use Rattle.fx_base.specs.declared.keys.NodeKey.{NodeKey}
use Rattle.fx_tree.specs.Scene.{has}
use Rattle.fx_tree.specs.Slots.{up_at}
use Rattle.fx_tree.proofs.Keys.{has-item}
use Rattle.fx_tree.proofs.Lines.{length-line_in}
use Rattle.fx_tree.proofs.Prune.{leaf_start, leaf_step}
use Rattle.fx_tree.proofs.nodes.last_leaf.Goals as goal

pub loop-step-init : goal.loop-step-init
loop-step-init c =
    let start = leaf_start c.args.nodes.now.slots c.args.key in
    (c.requires.alive, start.0, start.1)

pub returns-in-empty-clause-alive : goal.returns-in-empty-clause-alive
returns-in-empty-clause-alive c = c.loop-step.invariant.0

pub returns-in-empty-clause-within : goal.returns-in-empty-clause-within
returns-in-empty-clause-within c = c.loop-step.invariant.1

pub loop-step-preserved : goal.loop-step-preserved
loop-step-preserved c =
    let keys = c.children_in.result.now in
    let d : NodeKey = record { slot = 0; birth = 0 } in
    leaf_step c.args.nodes.now.slots c.args.key c.loop-step.at _ c.loop-step._step c.requires.forest c.loop-step.invariant.1 c.loop-step.invariant.2
    (ap (λ (l : List NodeKey). has l (get_or keys (length keys - 1) d)) (sym c.children_in.ensures)
    ∙ has-item keys (length keys - 1) d (omega (arith, c.in-len1-up.len_at_least)))

pub unreachable-requires : goal.unreachable-requires
unreachable-requires c =
    omega (arith, c.loop-step.invariant.2, c.loop-step-test.false, length-line_in 64 (up_at c.args.nodes.now.slots) (Some c.loop-step.at))
