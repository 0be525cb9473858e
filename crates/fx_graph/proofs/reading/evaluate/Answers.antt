use Rattle.std.proofs.Common.{ℕ, List, Contains, subst}
use Rattle.fx_graph.proofs.reading.evaluate.Goals as goal

pub evaluate_bound-requires-clause-names : goal.evaluate_bound-requires-clause-names
evaluate_bound-requires-clause-names g c =
    let r = rw c.in-Bound.is at c.requires in
    λ name i. r.0 name (subst (λ (xs : List ℕ). Contains xs name) c.as_slice.ensures i)
