-- the ink is that of the shape's colour
use Rattle.std.proofs.Common.{subst, Option, IfSome, ℕ}
use Rattle.fx_base.specs.declared.color.Color.{Color}
use Rattle.fx_pens.specs.Dots.{IsInk}
use Rattle.fx_canvas.proofs.painting.lay_block.Goals as goal

pub lay_opaque-requires-clause-ink : goal.lay_opaque-requires-clause-ink
lay_opaque-requires-clause-ink g c =
    subst (λ (k : Color). IsInk k c.in-Some.pixel) c.color_of.ensures
    (subst (λ (o : Option ℕ). IfSome o (IsInk c.color_of.result)) c.in-Some.is c.ink.ensures)
