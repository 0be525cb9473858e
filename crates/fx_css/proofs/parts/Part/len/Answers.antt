-- A part shows as many as it has bytes.
use Rattle.std.proofs.Common.{sym}
use Rattle.fx_css.proofs.NumberedLemmas.{length_shown}
use Rattle.fx_css.proofs.parts.Part.len.Goals as goal

pub returns : goal.returns
returns c = sym (length_shown c.args.self)
