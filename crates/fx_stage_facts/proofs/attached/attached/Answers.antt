use Rattle.std.proofs.Common.{ap}
use Rattle.fx_tree.specs.Scene.{is_once}
use Rattle.fx_stage_facts.proofs.attached.attached.Goals as goal

pub returns-in-None-clause-once : goal.returns-in-None-clause-once
unfolding is_once
returns-in-None-clause-once c = ap is_once c.new.ensures.items
