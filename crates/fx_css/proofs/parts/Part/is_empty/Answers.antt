-- A part shows as many as it has bytes.
use Rattle.std.proofs.Common.{◌==◌, sym, ◌∙◌, ap}
use Rattle.fx_css.proofs.NumberedLemmas.{length_shown}
use Rattle.fx_css.proofs.parts.Part.is_empty.Goals as goal

pub returns : goal.returns
returns c = c.is_empty.ensures ∙ sym (ap (λ y. y == 0) (length_shown c.args.self))
