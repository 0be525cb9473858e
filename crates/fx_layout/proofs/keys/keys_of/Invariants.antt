use Rattle.std.proofs.Common.{◌≡◌, take}
use Rattle.fx_layout_sweeps.specs.Nodes.{keys}
use Rattle.fx_layout.proofs.keys.keys_of.Given as goal

abbrev pub invariant-loop-node : goal.invariant-loop-node
invariant-loop-node l = l.keys.items ≡ keys (take l.node-index l.nodes)
