-- Want of memory may stop any reading.
use Rattle.fx_css.specs.Numbered.{numbered_marks}
use Rattle.fx_css.proofs.Answered.{memory_read}
use Rattle.fx_css.proofs.sheets.read_text.Goals as goal

pub returns-in_err-said : goal.returns-in_err-said
returns-in_err-said c = λ p marks m. memory_read c.args.form (numbered_marks marks) c.from_residual.result c.from_residual.ensures.1
