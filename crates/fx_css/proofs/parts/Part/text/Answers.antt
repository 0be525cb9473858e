-- A part shows its bytes.
use Rattle.fx_css.proofs.NumberedLemmas.{bytes_shown}
use Rattle.fx_css.proofs.parts.Part.text.Goals as goal

pub returns : goal.returns
returns c = bytes_shown c.args.self
