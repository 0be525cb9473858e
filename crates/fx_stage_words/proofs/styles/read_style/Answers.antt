use Rattle.std.proofs.Common.{length, subst}
use Rattle.fx_css.specs.Sheets.{IsPast}
use Rattle.fx_stage_words.proofs.StyleLemmas.{short_text, style_ok, style_past}
use Rattle.fx_stage_words.proofs.styles.read_style.Goals as goal

pub returns-in-Ok : goal.returns-in-Ok
returns-in-Ok c =
    style_ok c.args.text.now c.in-Ok.sheet (short_text (length c.args.text.now) c.if-text-gt-LONGEST_STYLE.false)
    c.in-Ok.ensures.exact

pub returns-in-Err-Limit : goal.returns-in-Err-Limit
returns-in-Err-Limit c =
    style_past c.args.text.now c.in-Err-Limit.field-0-0
    (short_text (length c.args.text.now) c.if-text-gt-LONGEST_STYLE.false)
    (λ rules warnings past is. subst (IsPast past) c.in-Err-Limit.field-0-is (c.in-Err-Limit.ensures.exact rules warnings past is))
