-- an empty list of content is read as nothing
use Rattle.std.proofs.Common.{◌∙◌}
use Rattle.fx_scene_outline.proofs.PartLemmas.{content_is}
use Rattle.fx_scene_literals.proofs.bare.has_no_content.Goals as goal

pub returns : goal.returns
returns c = c.is_empty.ensures ∙ content_is c.args.element.now
