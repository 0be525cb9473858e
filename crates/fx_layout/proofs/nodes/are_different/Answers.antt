use Rattle.std.proofs.Common.{refl}
use Rattle.fx_layout.proofs.Fitting.{not_different}
use Rattle.fx_layout.proofs.nodes.are_different.Goals as goal

pub returns-then-stands_before-clause-only : goal.returns-then-stands_before-clause-only
returns-then-stands_before-clause-only c = λ differ.
    let found = c.if-stands_before.ensures.found refl in
    absurd (not_different c.args.nodes.now found.0 c.loop-place.place differ found.1 c.loop-place-test.true found.2)
