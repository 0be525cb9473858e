use Rattle.std.proofs.Common.{sym, ◌∙◌}
use Rattle.fx_css_parts.proofs.PastSelectorLaws.{none_in_few}
use Rattle.fx_css_parts.proofs.limits.past_in_selectors.Goals as goal

pub returns-then-are_few : goal.returns-then-are_few
returns-then-are_few c = none_in_few c.args.text.now c.args.selectors.now c.requires.spelled (sym c.are_few.ensures ∙ c.if-are_few.true)
