use Rattle.std.proofs.Common.{◌≡◌, drop}
use Rattle.fx_graph_model.specs.Refusals.{wrong_kind}
use Rattle.fx_graph_refusals.proofs.refusals.misfit.Given as goal

abbrev pub invariant-loop-pair : goal.invariant-loop-pair
invariant-loop-pair l = wrong_kind l.entries (drop l.pair-index l.pairs) ≡ wrong_kind l.entries l.pairs
