-- each turn takes one digit, and none is left at the end
use Rattle.std.proofs.Common.{arith, get_or, refl}
use Rattle.fx_expr.proofs.DecimalLemmas.{digit_more, digits_end}
use Rattle.fx_expr.proofs.decimals.number_of.Goals as goal

pub loop-byte-preserved : goal.loop-byte-preserved
loop-byte-preserved c = record {
  number = digit_more c.loop-byte.number c.saturating_mul.result c.digit.result c.saturating_add-number.result
      c.loop-byte.byte-index c.args.digits.now (get_or c.args.digits.now c.loop-byte.byte-index 0) _
      c.loop-byte-test.true refl c.saturating_mul.ensures c.digit.ensures c.saturating_add-number.ensures
      c.loop-byte.invariant.number;
  fits = omega arith;
}

pub returns : goal.returns
returns c = digits_end c.loop-byte.number c.loop-byte.byte-index c.args.digits.now _ c.loop-byte.invariant.fits
    (omega arith) c.loop-byte.invariant.number
