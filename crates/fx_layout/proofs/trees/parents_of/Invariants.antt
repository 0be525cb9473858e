use Rattle.std.proofs.Common.{◌≡◌, take}
use Rattle.fx_layout_sweeps.specs.Nodes.{parents}
use Rattle.fx_layout.proofs.trees.parents_of.Given as goal

abbrev pub invariant-loop-node : goal.invariant-loop-node
invariant-loop-node l = l.parents.items ≡ parents (take l.node-index l.nodes)
