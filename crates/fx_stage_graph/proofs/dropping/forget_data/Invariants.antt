use Rattle.std.proofs.Common.{◌≡◌, drop}
use Rattle.fx_stage_types.specs.Tables.{without_data}
use Rattle.fx_stage_graph.proofs.dropping.forget_data.Given as goal

abbrev pub invariant-loop-key : goal.invariant-loop-key
invariant-loop-key l = without_data (drop l.key-index l.keys) l.nodes.map ≡ without_data l.keys l.fn.nodes.map
