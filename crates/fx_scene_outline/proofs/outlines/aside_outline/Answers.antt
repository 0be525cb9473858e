-- the element stands alone
use Rattle.fx_scene_outline.specs.Outlines.{aside_outline}
use Rattle.fx_scene_outline.proofs.PartLemmas.{aside_alone}
use Rattle.fx_scene_outline.proofs.outlines.aside_outline.Goals as goal

pub returns : goal.returns
unfolding aside_outline
returns c =
    aside_alone c.args.element.now c.new-pieces.result.items c.add_seated.new.pieces.items c.new-pieces.ensures.items
    c.in_ok-add_seated.ensures.ok
