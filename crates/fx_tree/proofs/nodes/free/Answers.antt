use Rattle.std.proofs.Common.{◌∙◌}
use Rattle.fx_tree.proofs.Edits.{IsFreed-made, alive_held}
use Rattle.fx_tree.proofs.nodes.free.Goals as goal

pub returns-clause-freed : goal.returns-clause-freed
returns-clause-freed c =
    IsFreed-made _ _ c.args.key c.requires c.try_remove.ensures.updates.changed c.try_remove.ensures.updates.others

pub returns-clause-len : goal.returns-clause-len
returns-clause-len c =
    let held = alive_held c.args.nodes.now.slots c.args.key c.requires in
    rw (c.try_remove.ensures.value ∙ held.1) at c.try_remove.ensures.len
