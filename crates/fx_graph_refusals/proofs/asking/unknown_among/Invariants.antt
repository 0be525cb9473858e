use Rattle.std.proofs.Common.{◌≡◌, drop}
use Rattle.fx_graph_model.specs.Refusals.{unknown_name}
use Rattle.fx_graph_refusals.proofs.asking.unknown_among.Given as goal

abbrev pub invariant-loop-name : goal.invariant-loop-name
invariant-loop-name l = unknown_name l.entries (drop l.name-index l.names) ≡ unknown_name l.entries l.names
