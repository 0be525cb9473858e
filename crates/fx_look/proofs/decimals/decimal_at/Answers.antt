use Rattle.fx_look.proofs.DecimalLemmas.{both_digits}
use Rattle.fx_look.proofs.decimals.decimal_at.Goals as goal

pub returns-clause-digits : goal.returns-clause-digits
returns-clause-digits c = both_digits c.sign_at-negative.result.1.now c.in_ok-whole.behind.now (c.in_ok-whole.whole.now, c.in_ok-whole.behind.now) (c.in_ok-fraction.fraction.now, c.in_ok-fraction.rest.now) c.in_ok-whole.ensures c.in_ok-fraction.ensures
