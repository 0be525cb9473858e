-- the number of the digits, rounded
use Rattle.std.specs.Char.{is_ascii_digit}
use Rattle.std.proofs.Common.{◌∙◌, ℕ, ℤ, List, ap, min, ◌^◌, ◌-◌, w64, SFits, rules}
use Rattle.std.proofs.lemmas.Int.{to_z-of_z}
use Rattle.fx_base.specs.declared.values.Value.TheVariants as value
use Rattle.fx_expr.specs.declared.tokens.Token.TheVariants.{Constant}
use Rattle.std.specs.Str.{chars}
use Rattle.fx_text.specs.Digits.{number_behind}
use Rattle.fx_text.specs.Fronts.{front, behind}
use Rattle.fx_expr.specs.Decimal.{fraction_digits}
use Rattle.fx_expr.proofs.DecimalLemmas.{decimal_is, fraction_pass}
use Rattle.fx_expr.proofs.decimals.number.Goals as goal

pub returns-clause-number : goal.returns-clause-number
returns-clause-number c =
    let fits : SFits w64 c.rounded-number.result = search rules in
    let whole = c.number_of.ensures ∙ ap (λ (ds : List ℕ). min (number_behind 0 ds) (2 ^ 64 - 1))
    (c.as_bytes.ensures.value ∙ c.digits.ensures.digits) in
    ap (λ (n : ℤ). Constant (value.Int n))
    (to_z-of_z w64 c.rounded-number.result fits
    ∙ (c.rounded-number.ensures ∙ decimal_is (front is_ascii_digit (chars c.args.text.now))
    (fraction_digits (behind is_ascii_digit (chars c.args.text.now))) c.fraction-up.result.0 c.number_of.result
    (fraction_pass (behind is_ascii_digit (chars c.args.text.now)))
    (rw c.digits.ensures.rest at c.fraction-up.ensures.up) whole))
