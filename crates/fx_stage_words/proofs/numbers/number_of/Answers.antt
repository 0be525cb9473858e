use Rattle.std.proofs.Common.{◌<◌, ◌+◌, ◌-◌, ◌∙◌, length, get_or, min, ℕ, List, ap, subst}
use Rattle.fx_stage_words.proofs.DigitLemmas.{digit_more}
use Rattle.fx_stage_words.proofs.numbers.number_of.Goals as goal

pub loop-digit-preserved : goal.loop-digit-preserved
loop-digit-preserved c =
    let i = c.loop-digit.digit-index in
    let same = c.as_bytes-digit-items.ensures.value ∙ c.as_str.ensures.text in
    digit_more c.args.word.now i c.loop-digit.number c.saturating_mul.result c.saturating_add-number.result
    (subst (λ (ds : List ℕ). i < length ds) same c.loop-digit-test.true) c.loop-digit.invariant c.saturating_mul.ensures
    (c.saturating_add-number.ensures
    ∙ ap (λ (n : ℕ). min (c.saturating_mul.result + n) 4294967295)
    (c.from.ensures ∙ c.saturating_sub.ensures ∙ ap (λ (ds : List ℕ). get_or ds i 0 - 48) same))
