use Rattle.std.proofs.Common.{arith}
use Rattle.fx_layout.proofs.Fitting.{behind_in, tree_of}
use Rattle.fx_layout.proofs.nodes.is_tree.Goals as goal

pub returns-clause-tree : goal.returns-clause-tree
returns-clause-tree c = λ yes. tree_of c.args.nodes.now
    (λ p within. c.loop-place.invariant p (omega (arith, within, c.loop-place-test.false)))

pub returns-then-not-stands_behind-clause-only : goal.returns-then-not-stands_behind-clause-only
returns-then-not-stands_behind-clause-only c = λ tree.
    let behind = behind_in c.args.nodes.now tree c.loop-place.place c.loop-place-test.true in
    let told = rw (c.parent_at.ensures) at c.if-not-stands_behind.ensures.only in
    told behind
