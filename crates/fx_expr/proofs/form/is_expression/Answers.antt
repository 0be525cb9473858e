-- a token that has no place in the form
use Rattle.std.proofs.Common.{sym, ◌∙◌}
use Rattle.fx_expr.proofs.FormSteps.{form_fails}
use Rattle.fx_expr.proofs.form.is_expression.Goals as goal

pub returns-in-None : goal.returns-in-None
returns-in-None c =
    sym (form_fails c.loop-token.wanted c.loop-token.count c.args.tokens.now c.loop-token.token-index c.token-item.result c.loop-token-test.true c.token-item.is c.in-None.ensures.form) ∙ c.loop-token.invariant.form
