use Rattle.std.proofs.Common.{◌≡◌, ◌++◌, ◌∷◌, map, drop}
use Rattle.fx_node_style.proofs.styling.chain_of.Given as goal

abbrev pub invariant-loop-node : goal.invariant-loop-node
invariant-loop-node l =
    map (λ n. n.now) l.chain.items ++ map (λ n. n.now) (drop l.node-index l.above) ≡ l.paints ∷ map (λ n. n.now) l.above
