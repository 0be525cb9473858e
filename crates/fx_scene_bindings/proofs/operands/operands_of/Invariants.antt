-- what is found so far stands in front of what the paths that are left lead to
use Rattle.std.proofs.Common.{◌≡◌, drop, map}
use Rattle.fx_scene_bindings.specs.Bindings.{operands_of}
use Rattle.fx_scene_bindings.specs.Views.{operand_view}
use Rattle.fx_scene_things.specs.Known.{known, space_view}
use Rattle.fx_scene_bindings.proofs.OperandLemmas.{behind}
use Rattle.fx_scene_bindings.proofs.operands.operands_of.Given as goal

abbrev pub invariant-loop-path : goal.invariant-loop-path
invariant-loop-path l =
    behind (map operand_view l.operands.items) (operands_of (map space_view l.spaces) (known l.names) (drop l.path-index l.paths))
    ≡ operands_of (map space_view l.spaces) (known l.names) l.paths
