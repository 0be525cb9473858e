-- one digit more
use Rattle.std.proofs.Common.{◌∙◌, ap, ◌+◌, ◌-◌, ◌^◌, min}
use Rattle.fx_text.proofs.DigitLemmas.{capped-digit}
use Rattle.fx_text.proofs.digits.capped_number.Goals as goal

pub loop-digit-preserved : goal.loop-digit-preserved
loop-digit-preserved c =
    capped-digit c.args.digits.now c.loop-digit.digit-index c.loop-digit.number c.saturating_mul.result c.saturating_add-number.result
    c.loop-digit-test.true c.loop-digit.invariant c.saturating_mul.ensures
    (c.saturating_add-number.ensures ∙ ap (λ n. min (c.saturating_mul.result + n) (2 ^ 32 - 1)) c.from.ensures)
