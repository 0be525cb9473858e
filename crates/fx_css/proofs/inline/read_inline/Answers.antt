-- What is answered is what the text is read as, and the other way round.
-- It rests on the law of one reading.
use Rattle.std.proofs.Common.{subst}
use Rattle.fx_css.specs.declared.sheets.Form.TheVariants.{Style}
use Rattle.fx_css.proofs.Answered.{AnswersAs, style_by, style_fault_by, style_given}
use Rattle.fx_css.proofs.Within.{style_kept}
use Rattle.fx_css.proofs.inline.read_inline.Goals as goal

pub returns-clause-read : goal.returns-clause-read
returns-clause-read c = style_by c.args.text.now c.read_as.result (subst (λ y. AnswersAs Style 0 y c.read_as.result) c.as_bytes.ensures.value c.read_as.ensures)

pub returns-clause-fault : goal.returns-clause-fault
returns-clause-fault c = style_fault_by c.args.text.now c.read_as.result (subst (λ y. AnswersAs Style 0 y c.read_as.result) c.as_bytes.ensures.value c.read_as.ensures)

pub returns-clause-exact : goal.returns-clause-exact
returns-clause-exact c = style_given c.args.text.now c.read_as.result (subst (λ y. AnswersAs Style 0 y c.read_as.result) c.as_bytes.ensures.value c.read_as.ensures)

pub returns-clause-within : goal.returns-clause-within
returns-clause-within c = style_kept c.args.text.now c.read_as.result (style_by c.args.text.now c.read_as.result (subst (λ y. AnswersAs Style 0 y c.read_as.result) c.as_bytes.ensures.value c.read_as.ensures))
