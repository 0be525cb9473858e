use Rattle.std.proofs.Common.{◌≡◌, drop}
use Rattle.fx_graph_model.specs.Refusals.{unknown_name, pair_names}
use Rattle.fx_graph_refusals.proofs.refusals.unknown_pair.Given as goal

abbrev pub invariant-loop-pair : goal.invariant-loop-pair
invariant-loop-pair l = unknown_name l.entries (pair_names (drop l.pair-index l.pairs)) ≡ unknown_name l.entries (pair_names l.pairs)
