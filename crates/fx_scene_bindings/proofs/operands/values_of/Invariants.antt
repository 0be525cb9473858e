-- the values so far
use Rattle.std.proofs.Common.{◌≡◌, take}
use Rattle.fx_scene_bindings.specs.Bindings.{values_of}
use Rattle.fx_scene_things.specs.Known.{known}
use Rattle.fx_scene_bindings.proofs.operands.values_of.Given as goal

abbrev pub invariant-loop-path : goal.invariant-loop-path
invariant-loop-path l = l.values.items ≡ values_of (known l.names) (take l.path-index l.paths)
