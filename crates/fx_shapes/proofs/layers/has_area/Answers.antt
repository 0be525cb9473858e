use Rattle.std.proofs.Common.{◌∙◌, true, false, pos, refl, sym}
use Rattle.std.specs.Prelude.{int_lt}
use Rattle.fx_shapes.proofs.HiddenLemmas.{area_is}
use Rattle.fx_shapes.proofs.layers.has_area.Goals as goal

pub returns-then-is_wide : goal.returns-then-is_wide
returns-then-is_wide c = area_is c.args.rect true c.is_high.result (sym c.if-is_wide.true ∙ c.is_wide.ensures) c.is_high.ensures

pub returns-else-is_wide : goal.returns-else-is_wide
returns-else-is_wide c = c.if-is_wide.false ∙ area_is c.args.rect false (int_lt (pos 0) c.args.rect.h) (sym c.if-is_wide.false ∙ c.is_wide.ensures) refl
