-- counted as they are seen
use Rattle.std.proofs.Common.{◌∙◌}
use Rattle.fx_scene_read.specs.Opening.{children, is_child}
use Rattle.fx_scene_read.proofs.CountLemmas.{counted}
use Rattle.fx_scene_read.proofs.counting.children.Goals as goal

pub returns : goal.returns
unfolding children
returns c = c.count_children.ensures ∙ counted (is_child c.args.owner) c.args.pieces.now
