use Rattle.std.proofs.Common.{◌≤◌, length, sym, arith}
use Rattle.fx_tree.specs.Slots.{below_at}
use Rattle.fx_tree.proofs.Edits.{length-below_at}
use Rattle.fx_tree.proofs.nodes.insert_child.Goals as goal

pub insert-requires : goal.insert-requires
insert-requires c =
    let few : length (below_at c.args.nodes.now.slots c.args.parent) ≤ length c.in-Some.stored.now.children =
    length-below_at c.args.nodes.now.slots c.args.parent c.in-Some.stored.now (sym c.in-Some.ensures.value) in
    omega (arith, few, c.requires.place)
