use Rattle.std.proofs.Common.{◌≡◌, drop, reverse}
use Rattle.fx_graph_model.specs.Changes.{with_values}
use Rattle.fx_graph.specs.Given.{texts_in}
use Rattle.fx_graph.proofs.giving.give.Given as goal

-- the texts that are left, and what the entries become
abbrev pub invariant-loop-pair : goal.invariant-loop-pair
invariant-loop-pair l =
    (l.texts.items ≡ reverse (texts_in (drop l.pair-index l.pairs)))
    × (with_values l.sets (drop l.pair-index l.pairs) l.entries ≡ with_values l.sets l.pairs l.fn.entries)
