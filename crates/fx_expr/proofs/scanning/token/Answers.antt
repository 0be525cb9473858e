-- which token a character begins
use Rattle.std.proofs.Common.{sym, ◌∙◌, rules}
use Rattle.std.specs.Str.{chars}
use Rattle.fx_expr.proofs.ScanSteps.{token_digit, token_quote, token_word, token_sign}
use Rattle.fx_expr.proofs.scanning.token.Goals as goal

pub returns-then-is_digit : goal.returns-then-is_digit
returns-then-is_digit c =
    rw (c.number.ensures.number, c.number.ensures.rest)
    (token_digit (chars c.args.text.now) (chars c.args.behind.now) c.args.first c.requires
    (sym c.is_digit.ensures ∙ c.if-is_digit.true))

pub returns-then-is_quote : goal.returns-then-is_quote
returns-then-is_quote c =
    rw (token_quote (chars c.args.text.now) (chars c.args.behind.now) c.args.first c.requires
    (sym c.is_digit.ensures ∙ c.if-is_digit.false) (sym c.is_quote.ensures ∙ c.if-is_quote.true))
    c.quoted_token.ensures

pub returns-then-is_letter : goal.returns-then-is_letter
returns-then-is_letter c =
    rw (token_word (chars c.args.text.now) (chars c.args.behind.now) c.args.first c.requires
    (sym c.is_digit.ensures ∙ c.if-is_digit.false) (sym c.is_quote.ensures ∙ c.if-is_quote.false)
    (sym c.is_letter.ensures ∙ c.if-is_letter.true)) c.word.ensures

pub returns : goal.returns
returns c =
    rw (token_sign (chars c.args.text.now) (chars c.args.behind.now) c.args.first c.requires
    (sym c.is_digit.ensures ∙ c.if-is_digit.false) (sym c.is_quote.ensures ∙ c.if-is_quote.false)
    (sym c.is_letter.ensures ∙ c.if-is_letter.false)) (search rules)
