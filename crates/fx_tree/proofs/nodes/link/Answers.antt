use Rattle.std.proofs.Common.{refl}
use Rattle.fx_tree.proofs.Edits.{IsLinked-made, alive_held}
use Rattle.fx_tree.proofs.nodes.link.Goals as goal

pub insert_child-requires-clause-alive : goal.insert_child-requires-clause-alive
insert_child-requires-clause-alive c =
    let held = alive_held c.args.nodes.now.slots c.args.parent c.requires.parent_alive in rw held.1 refl

pub returns-clause-ok : goal.returns-clause-ok
returns-clause-ok c =
    IsLinked-made _ c.insert_child.new.nodes.slots _ c.args.parent c.args.child c.args.place c.requires.parent_alive c.requires.child_alive
    c.in_ok-insert_child.ensures.changed c.in_ok-insert_child.ensures.others c.set_parent.ensures.changed c.set_parent.ensures.others
