use Rattle.std.proofs.Common.{◌≡◌, take}
use Rattle.fx_stage_model.specs.Nodes as spec
use Rattle.fx_stage.proofs.stage.Stage.names_of_all.Given as goal

abbrev pub invariant-loop-key : goal.invariant-loop-key
invariant-loop-key l = l.names.items ≡ spec.names_of_all l.self.graph.table (take l.key-index l.keys)
