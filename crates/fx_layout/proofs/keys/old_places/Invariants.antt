use Rattle.std.proofs.Common.{◌≡◌, take}
use Rattle.fx_layout.specs.Updates.{old_places}
use Rattle.fx_layout.proofs.keys.old_places.Given as goal

abbrev pub invariant-loop-node : goal.invariant-loop-node
invariant-loop-node l = l.places.items ≡ old_places l.old (take l.node-index l.nodes)
