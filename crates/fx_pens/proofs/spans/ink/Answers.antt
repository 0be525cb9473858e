-- an opaque colour is all that shows
use Rattle.std.proofs.Common.{◌∙◌, sym}
use Rattle.fx_pens.proofs.SpanLemmas.{blended-opaque}
use Rattle.fx_pens.proofs.spans.ink.Goals as goal

pub returns-then-color-eq255 : goal.returns-then-color-eq255
returns-then-color-eq255 c = λ under. blended-opaque c.args.color under c.if-color-eq255.true ∙ sym c.opaque.ensures
