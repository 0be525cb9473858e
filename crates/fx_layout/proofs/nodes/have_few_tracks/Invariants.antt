use Rattle.std.proofs.Common.{◌≤◌, All, length, take}
use Rattle.fx_kinds.specs.declared.facts.BoxFacts.{BoxFacts}
use Rattle.fx_layout.proofs.nodes.have_few_tracks.Given as goal

abbrev pub invariant-loop-node : goal.invariant-loop-node
invariant-loop-node l =
    All (λ (node : BoxFacts). length node.columns ≤ 256) (take l.node-index l.nodes)
    × All (λ (node : BoxFacts). length node.rows ≤ 256) (take l.node-index l.nodes)
