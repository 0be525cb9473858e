use Rattle.std.proofs.Common.{◌∙◌, ap}
use Rattle.fx_tree.specs.Scene.{is_once}
use Rattle.fx_tree.proofs.Walks.{subtrees_meet_once}
use Rattle.fx_stage_facts.proofs.attached.nodes_below.Goals as goal

pub returns-in-Ok-clause-once : goal.returns-in-Ok-clause-once
returns-in-Ok-clause-once c =
    ap is_once c.in-Ok.ensures.ok ∙ subtrees_meet_once c.args.tree.now c.args.top c.requires
