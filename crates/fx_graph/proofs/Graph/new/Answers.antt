use Rattle.fx_graph.proofs.StoreLemmas.{store_empty}
use Rattle.fx_graph.proofs.Graph.new.Goals as goal

pub invariant_of-result : goal.invariant_of-result
invariant_of-result c =
    rw (c.new.ensures.items, c.new-2.ensures.items, c.new-3.ensures.items, c.new-4.ensures.items, c.new-5.ensures.items, c.new-6.ensures.items, c.new-8.ensures.items)
    store_empty
