use Rattle.std.proofs.Common.{◌≡◌, ◌++◌, map, drop}
use Rattle.fx_lookup.specs.Lookups.{resolved}
use Rattle.fx_node_style.specs.Kinds.{colors_of}
use Rattle.fx_node_style.proofs.paints.write_painted.Given as goal

abbrev pub invariant-loop-paint : goal.invariant-loop-paint
invariant-loop-paint l =
    l.items.items ++ colors_of (resolved (map (λ n. n.now) l.chain)) (drop l.paint-index l.paints)
    ≡ colors_of (resolved (map (λ n. n.now) l.chain)) l.paints
