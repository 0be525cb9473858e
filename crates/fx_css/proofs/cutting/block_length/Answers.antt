-- No more is taken than the part has.
use Rattle.std.proofs.Common.{◌≡◌, suc, length, ap, arith}
use Rattle.fx_css.specs.Numbered.{shown}
use Rattle.fx_css.proofs.NumberedLemmas.{length_shown}
use Rattle.fx_css.proofs.cutting.block_length.Goals as goal

pub overflow_add-taken : goal.overflow_add-taken
overflow_add-taken c =
    let e : length (shown c.loop-first.rest) ≡ suc (length (shown c.in-Some.behind)) = ap length c.in-Some.ensures.some in
    omega (arith, e, length_shown c.args.part, c.loop-first.invariant.within, c.ranges.part)

pub overflow_add-open : goal.overflow_add-open
overflow_add-open c =
    let e : length (shown c.loop-first.rest) ≡ suc (length (shown c.in-Some.behind)) = ap length c.in-Some.ensures.some in
    omega (arith, e, length_shown c.args.part, c.loop-first.invariant.within, c.loop-first.invariant.deep, c.ranges.part)
