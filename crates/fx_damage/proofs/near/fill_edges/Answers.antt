-- the rectangle was tested
use Rattle.std.proofs.Common.{◌∙◌, sym}
use Rattle.fx_damage.proofs.NearLemmas.{rect_tells}
use Rattle.fx_damage.proofs.near.fill_edges.Goals as goal

pub rect_edges-requires : goal.rect_edges-requires
rect_edges-requires c = rect_tells c.args.rect (sym c.is_near_rect.ensures ∙ c.if-not-is_near_rect.false)
