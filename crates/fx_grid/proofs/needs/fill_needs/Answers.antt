use Rattle.std.proofs.Common.{◌-◌, arith}
use Rattle.fx_grid.proofs.NeedLemmas.{raised_next}
use Rattle.fx_grid.proofs.needs.fill_needs.Goals as goal

pub loop-place-preserved : goal.loop-place-preserved
loop-place-preserved c = record {
  within = omega (arith, c.loop-place.invariant.within);
  needed = λ k other within.
      raised_next c.args.axis c.args.children.now c.loop-place.place (c.loop-place.place - 1) k _ _ _ _
      (omega (arith, c.loop-place-test.true)) (omega (arith, c.loop-place-test.true, c.loop-place.invariant.within))
      c.child_axis.ensures.value (c.loop-place.invariant.needed k other (omega (arith, within, c.raise.auto.needs)))
      (c.raise.ensures k other (omega (arith, within, c.raise.auto.needs)));
}
