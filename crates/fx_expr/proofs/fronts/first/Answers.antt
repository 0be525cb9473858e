use Rattle.std.proofs.Common.{sym, ◌∙◌, ap, length, ◌++◌}
use Rattle.std.proofs.lemmas.Str.{chars_past_char}
use lib.Utf8.{encode}
use Rattle.fx_expr.proofs.RunLemmas.{no_chars}
use Rattle.fx_expr.proofs.fronts.first.Goals as goal

pub returns-in-Some-clause-some : goal.returns-in-Some-clause-some
returns-in-Some-clause-some c =
    chars_past_char c.args.text.now c.as_str.result.now c.in-Some.c c.utf8.text
    (sym c.chars-characters.ensures.rest ∙ (c.in-Some.ensures.steps.0
    ∙ ap (λ t. encode c.in-Some.c ++ t) (sym c.as_str.ensures)))

pub returns-in-None-clause-none : goal.returns-in-None-clause-none
returns-in-None-clause-none c = no_chars c.args.text.now (ap length (sym c.chars-characters.ensures.rest)
    ∙ c.in-None.ensures.steps.0.0)
