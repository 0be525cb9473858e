-- the root stands alone
use Rattle.fx_scene_outline.specs.Outlines.{outline}
use Rattle.fx_scene_outline.proofs.PartLemmas.{root_alone}
use Rattle.fx_scene_outline.proofs.outlines.outline.Goals as goal

pub returns : goal.returns
unfolding outline
returns c =
    root_alone c.args.document.now.root c.new-pieces.result.items c.add_seated.new.pieces.items
    c.new-pieces.ensures.items c.in_ok-add_seated.ensures.ok
