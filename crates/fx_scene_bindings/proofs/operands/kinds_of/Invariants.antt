-- the operands so far
use Rattle.std.proofs.Common.{◌≡◌, map, take}
use Rattle.fx_scene_bindings.specs.Bindings.{kinds_of}
use Rattle.fx_scene_bindings.specs.Views.{operand_view}
use Rattle.fx_scene_bindings.proofs.operands.kinds_of.Given as goal

abbrev pub invariant-loop-operand : goal.invariant-loop-operand
invariant-loop-operand l = l.kinds.items ≡ kinds_of (map operand_view (take l.operand-index l.operands))
