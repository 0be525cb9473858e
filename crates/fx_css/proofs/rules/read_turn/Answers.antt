-- No more is taken than the part has.
use Rattle.std.proofs.Common.{arith}
use Rattle.fx_css.proofs.NumberedLemmas.{length_shown}
use Rattle.fx_css.proofs.rules.read_turn.Goals as goal

pub overflow_add-result : goal.overflow_add-result
overflow_add-result c = omega (arith, length_shown c.in-Some.more, c.in-Some.more.within, c.at_rule_length.ensures.within)
