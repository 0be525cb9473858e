-- the ink is all that shows
use Rattle.std.proofs.Common.{◌∙◌, sym, subst, IfSome}
use Rattle.fx_base.specs.Pixel.{blended}
use Rattle.fx_pens.specs.Dots.{IsInk}
use Rattle.fx_pens.proofs.SpanLemmas.{map-constant}
use Rattle.fx_pens.proofs.spans.lay_color.Goals as goal

pub returns-in-Some : goal.returns-in-Some
returns-in-Some c =
    c.write.ensures
    ∙ sym (map-constant (blended c.args.color) c.in-Some.pixel c.args.row.now (subst (λ i. IfSome i (IsInk c.args.color)) c.in-Some.is c.requires))
