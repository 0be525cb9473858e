-- the nodes so far have the same keys and parents in both lists
use Rattle.std.proofs.Common.{◌≡◌, take}
use Rattle.fx_layout_sweeps.specs.Nodes.{keys, parents}
use Rattle.fx_pulse_touched.proofs.comparing.heads_are_same.Given as goal

abbrev pub invariant-loop-place : goal.invariant-loop-place
invariant-loop-place l =
    (keys (take l.place l.olds) ≡ keys (take l.place l.nodes))
    × (parents (take l.place l.olds) ≡ parents (take l.place l.nodes))
