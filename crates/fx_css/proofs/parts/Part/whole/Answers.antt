-- A whole text is numbered from 0.
use Rattle.fx_css.proofs.NumberedLemmas.{shown_is}
use Rattle.fx_css.proofs.parts.Part.whole.Goals as goal

pub returns : goal.returns
returns c = shown_is _
