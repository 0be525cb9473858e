use Rattle.std.proofs.Common.{◌∙◌}
use Rattle.std.proofs.lemmas.List.Sorted.{IsNonDecreasingBy-from_sort}
use Rattle.fx_graph_edges.proofs.NewlyLemmas.{front_of}
use Rattle.fx_graph_edges.proofs.newly.sort_front.Goals as goal

pub returns-clause-rising : goal.returns-clause-rising
returns-clause-rising c =
    rw (front_of c.sort_unstable.new.self c.split_at_mut-listed.result.1.now c.args.count (c.sort_unstable.ensures.len ∙ c.split_at_mut-listed.ensures.front_len))
    (IsNonDecreasingBy-from_sort (λ n. n) _ c.sort_unstable.ensures.sorted)
