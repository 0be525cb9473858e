use Rattle.std.proofs.Common.{sym, ◌∙◌}
use Rattle.fx_css_marks.proofs.Sayings.{bare_itself, nothing_bare}
use Rattle.fx_css_marks.proofs.finding.is_bare.Goals as goal

pub returns-clause-bare : goal.returns-clause-bare
returns-clause-bare c = λ yes. bare_itself c.args.text.now (sym c.holds_nothing.ensures ∙ yes)

pub returns-clause-only : goal.returns-clause-only
returns-clause-only c = λ quotes beginning. c.holds_nothing.ensures ∙ nothing_bare c.args.text.now quotes beginning
