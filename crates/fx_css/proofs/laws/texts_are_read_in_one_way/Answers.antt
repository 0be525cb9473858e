-- The law of one reading.
-- Two readings have the same marks, and marks are read in one way.
use Rattle.fx_css.proofs.OneReading.{one_text}
use Rattle.fx_css.proofs.laws.texts_are_read_in_one_way.Goals as goal

pub returns : goal.returns
returns c = one_text
