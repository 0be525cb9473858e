use Rattle.std.proofs.Common.{◌≡◌, take}
use Rattle.fx_layout_sweeps.specs.Nodes.{keys, parents}
use Rattle.fx_layout.proofs.trees.are_heads.Given as goal

abbrev pub invariant-loop-place : goal.invariant-loop-place
invariant-loop-place l =
    (take l.place l.ups ≡ parents (take l.place l.nodes)) × (take l.place l.kept ≡ keys (take l.place l.nodes))
