use Rattle.std.proofs.Common.{◌≡◌, take}
use Rattle.fx_base.specs.Names.{numbers}
use Rattle.fx_graph_model.specs.Changes.{changed}
use Rattle.fx_store.proofs.marking.changing_names.Given as goal

abbrev pub invariant-loop-pair : goal.invariant-loop-pair
invariant-loop-pair l = numbers l.names.items ≡ changed (take l.pair-index l.pairs) l.graph.entries
