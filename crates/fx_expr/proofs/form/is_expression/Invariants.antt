-- the form of what is left decides, and few parentheses are open
use Rattle.std.proofs.Common.{◌≡◌, ◌≤◌, true, drop}
use Rattle.fx_expr.specs.Form.{has_form}
use Rattle.fx_expr.proofs.form.is_expression.Given as goal

abbrev pub invariant-loop-token : goal.invariant-loop-token
invariant-loop-token l = record {
  form : has_form l.wanted l.count (drop l.token-index l.tokens) ≡ has_form true 0 l.tokens;
  few : l.count ≤ l.token-index;
}
