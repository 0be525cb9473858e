-- the nodes so far have the same keys and parents in both lists
use Rattle.std.proofs.Common.{◌≡◌, map, take}
use Rattle.fx_kinds.specs.declared.facts.StyleFacts.{StyleFacts}
use Rattle.fx_layout_sweeps.specs.Nodes.{keys, parents}
use Rattle.fx_pulse.proofs.checking.have_same_heads.Given as goal

abbrev pub invariant-loop-place : goal.invariant-loop-place
invariant-loop-place l =
    (map (λ (node : StyleFacts). node.key) (take l.place l.styles) ≡ keys (take l.place l.boxes))
    × (map (λ (node : StyleFacts). node.parent) (take l.place l.styles) ≡ parents (take l.place l.boxes))
