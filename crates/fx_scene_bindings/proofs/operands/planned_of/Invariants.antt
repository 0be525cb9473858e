-- the operands so far
use Rattle.std.proofs.Common.{◌≡◌, map, take}
use Rattle.fx_scene_bindings.specs.Bindings.{planned_of}
use Rattle.fx_scene_bindings.specs.Views.{operand_view}
use Rattle.fx_scene_bindings.proofs.operands.planned_of.Given as goal

abbrev pub invariant-loop-operand : goal.invariant-loop-operand
invariant-loop-operand l = l.planned.items ≡ planned_of (map operand_view (take l.operand-index l.operands))
