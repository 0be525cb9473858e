use Rattle.std.proofs.Common.{◌∙◌}
use Rattle.fx_look.proofs.RoundingLemmas.{any_back}
use Rattle.fx_look.proofs.numbers.has_more.Goals as goal

pub returns-else-is_above_zero : goal.returns-else-is_above_zero
returns-else-is_above_zero c = c.is_above_zero-else-is_above_zero.ensures
    ∙ any_back c.args.decimal.now.whole.now c.args.decimal.now.fraction.now c.from.result.now c.from-else-is_above_zero.result.now
    c.args.place c.saturating_sub-behind.result c.from.ensures c.if-is_above_zero.ensures c.saturating_sub-behind.ensures c.from-else-is_above_zero.ensures
