-- the tasks so far
use Rattle.std.proofs.Common.{◌≡◌, ◌++◌, map, take}
use Rattle.fx_scene_load.specs.Reading.{bound_task}
use Rattle.fx_scene_things.specs.Known.{space_view}
use Rattle.fx_scene_load.proofs.bindings.add_bound.Given as goal

abbrev pub invariant-loop-waiting : goal.invariant-loop-waiting
invariant-loop-waiting l =
    l.tasks.items ≡ l.fn.tasks.items ++ map (bound_task (map space_view l.spaces)) (take l.waiting-index l.bindings)
