use Rattle.std.proofs.Common.{arith}
use Rattle.fx_grid.proofs.NeedLemmas.{raises_nothing, raises_one}
use Rattle.fx_grid.proofs.needs.raise.Goals as goal

pub returns-then-child-eq1 : goal.returns-then-child-eq1
returns-then-child-eq1 c = λ k other within. raises_one c.args.child.now c.args.needs.now _ _ k other (omega (arith, c.requires.within, c.if-child-eq1.true)) c.raised.ensures

pub returns-else-child-eq1 : goal.returns-else-child-eq1
returns-else-child-eq1 c = λ k other within. raises_nothing c.args.child.now k _ c.if-child-eq1.false
