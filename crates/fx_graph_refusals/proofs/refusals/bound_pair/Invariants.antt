use Rattle.std.proofs.Common.{◌≡◌, drop}
use Rattle.fx_base.specs.declared.keys.Name.{Name}
use Rattle.fx_graph_model.specs.declared.errors.GraphError.TheVariants.{Bound}
use Rattle.fx_graph_model.specs.Uses.{bound_in}
use Rattle.fx_base.specs.Answers.{refused_first}
use Rattle.fx_graph_model.specs.Refusals.{pair_names}
use Rattle.fx_graph_refusals.proofs.refusals.bound_pair.Given as goal

abbrev pub invariant-loop-pair : goal.invariant-loop-pair
invariant-loop-pair l =
    refused_first Bound (λ (name : Name). bound_in l.entries name.0) (pair_names (drop l.pair-index l.pairs))
    ≡ refused_first Bound (λ (name : Name). bound_in l.entries name.0) (pair_names l.pairs)
