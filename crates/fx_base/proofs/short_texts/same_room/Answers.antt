-- rooms are one where their words are
use Rattle.std.proofs.Common.{rules, ◌∙◌, sym}
use Rattle.fx_base.proofs.WordLemmas.{same_words}
use Rattle.fx_base.proofs.short_texts.same_room.Goals as goal

pub returns : goal.returns
returns c = (
  (λ so. same_words c.args.bytes.now c.args.others.now (search rules) (search rules) (λ at. search rules) (λ at. search rules)
      (sym c.word.ensures ∙ c.if-word.false ∙ c.word-2.ensures)
      (sym c.word-3.ensures ∙ c.if-word-2.false ∙ c.word-4.ensures)
      (sym c.word-5.ensures ∙ c.if-word-3.false ∙ c.word-6.ensures)
      (sym c.word-7.ensures ∙ (search rules) ∙ c.word-8.ensures)),
  (λ same. search rules),
)
