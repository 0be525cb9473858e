use Rattle.std.proofs.Common.{◌≡◌, drop}
use Rattle.fx_stage_model.specs.Graphs.{without_handlers}
use Rattle.fx_stage_graph.proofs.dropping.forget_handlers.Given as goal

abbrev pub invariant-loop-key : goal.invariant-loop-key
invariant-loop-key l = without_handlers (drop l.key-index l.keys) l.handlers ≡ without_handlers l.keys l.fn.handlers
