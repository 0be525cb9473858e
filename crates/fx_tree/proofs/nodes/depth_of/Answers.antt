use Rattle.std.proofs.Common.{◌≡◌, ◌-◌, ◌+◌, ◌∷◌, [], length, Option, ap, arith}
use Rattle.fx_base.specs.declared.keys.NodeKey.{NodeKey}
use Rattle.fx_tree.specs.Scene.{line_in}
use Rattle.fx_tree.specs.Slots.{up_at}
use Rattle.fx_tree.proofs.Lines.{walk_none, walk_some, walk_end}
use Rattle.fx_tree.proofs.nodes.depth_of.Goals as goal

pub returns-in-None-clause-counted : goal.returns-in-None-clause-counted
returns-in-None-clause-counted c =
    let up = up_at c.args.nodes.now.slots in
    let e : length (line_in (64 - c.loop-steps.steps) up c.loop-steps.at) ≡ length {A = NodeKey} [] = ap length (walk_none up c.loop-steps.steps c.loop-steps.at c.in-None.is) in
    omega (arith, e, c.loop-steps.invariant)

pub loop-steps-preserved : goal.loop-steps-preserved
loop-steps-preserved c =
    let up = up_at c.args.nodes.now.slots in
    let tail = line_in (64 - (c.loop-steps.steps + 1)) up (up c.in-Some.here) in
    let e : length (line_in (64 - c.loop-steps.steps) up c.loop-steps.at) ≡ length (c.in-Some.here ∷ tail) =
    ap length (walk_some up c.loop-steps.steps c.loop-steps.at c.in-Some.here c.in-Some.is c.loop-steps-test.true) in
    let f : length (line_in (64 - (c.loop-steps.steps + 1)) up c.parent_in-at.result) ≡ length tail =
    ap (λ (o : Option NodeKey). length (line_in (64 - (c.loop-steps.steps + 1)) up o)) c.parent_in-at.ensures in
    omega (arith, e, f, c.loop-steps.invariant)

pub returns-clause-counted : goal.returns-clause-counted
returns-clause-counted c =
    let up = up_at c.args.nodes.now.slots in
    let e : length (line_in (64 - c.loop-steps.steps) up c.loop-steps.at) ≡ length {A = NodeKey} [] = ap length (walk_end up c.loop-steps.steps c.loop-steps.at c.loop-steps-test.false) in
    omega (arith, e, c.loop-steps.invariant)
