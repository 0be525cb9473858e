-- The index is within the part, or there is no such byte.
use Rattle.std.proofs.Common.{sym, ◌∙◌, ap, arith, ◌<◌, length}
use Rattle.fx_css.specs.Numbered.{shown}
use Rattle.fx_css.specs.Pieces.{number_at}
use Rattle.fx_css.proofs.NumberedLemmas.{some_number, no_number}
use Rattle.fx_css.proofs.parts.Part.number_at.Goals as goal

pub returns-then-index-self : goal.returns-then-index-self
returns-then-index-self c = no_number c.args.self c.in_ok-index.index c.if-index-self.true ∙ sym (ap (number_at (shown c.args.self)) c.in_ok-index.was)

pub returns : goal.returns
returns c = some_number c.args.self c.in_ok-index.index (let h : c.in_ok-index.index < length c.args.self.bytes.now = omega (arith, c.if-index-self.false) in h) ∙ sym (ap (number_at (shown c.args.self)) c.in_ok-index.was)
