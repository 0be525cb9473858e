-- the empty text has no characters
use Rattle.std.proofs.Common.{arith}
use Rattle.std.proofs.lemmas.Str.{IsUtf8-nil}
use Rattle.fx_base.proofs.TextLemmas.{chars-few}
use Rattle.fx_base.proofs.texts.Text.new.Goals as goal

pub invariant_of-result : goal.invariant_of-result
invariant_of-result c = chars-few _ _ c.new.ensures IsUtf8-nil (omega arith)
