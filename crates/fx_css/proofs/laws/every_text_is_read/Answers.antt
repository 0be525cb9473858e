-- The law of some reading.
-- The scan gives the marks, and turns their reading.
use Rattle.fx_css.proofs.OneReading.{some_text}
use Rattle.fx_css.proofs.laws.every_text_is_read.Goals as goal

pub returns : goal.returns
returns c = some_text
