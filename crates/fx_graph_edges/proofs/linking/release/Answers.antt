use Rattle.std.proofs.Common.{List, ℕ, Contains, sym, ap, subst, ◌∙◌}
use Rattle.fx_graph_model.specs.Uses.{operands_in}
use Rattle.fx_graph_edges.proofs.linking.release.Goals as goal

pub unlink-requires : goal.unlink-requires
unlink-requires c = λ name member.
    c.requires name (subst (λ (xs : List ℕ). Contains xs name) (c.as_slice.ensures ∙ sym (ap operands_in c.in-Bound.is)) member)
