-- the birth numbers of the nodes so far
use Rattle.std.proofs.Common.{◌≡◌, take}
use Rattle.fx_pulse_model.specs.Scenes.{births}
use Rattle.fx_pulse.proofs.checking.births_of.Given as goal

abbrev pub invariant-loop-node : goal.invariant-loop-node
invariant-loop-node l = l.births.items ≡ births (take l.node-index l.boxes)
