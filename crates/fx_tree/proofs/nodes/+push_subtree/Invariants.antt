use Rattle.std.proofs.Common.{◌≡◌, ◌-◌, ◌++◌, take}
use Rattle.std.specs.List.{flat_map}
use Rattle.fx_tree.specs.Scene.{subtree_in}
use Rattle.fx_tree.specs.Slots.{below_at}
use Rattle.fx_tree.proofs.nodes.+push_subtree.Given as goal

abbrev pub decreases-push_subtree : goal.decreases-push_subtree
decreases-push_subtree l = l.levels

abbrev pub invariant-loop-child : goal.invariant-loop-child
invariant-loop-child l =
    l.keys.items ≡ (l.initial.keys.items ++ flat_map (subtree_in (l.levels - 1) (below_at l.nodes.slots)) (take l.child-index l.child-items))
