-- what is left completes what stands
use Rattle.std.proofs.Common.{◌≡◌, ◌≤◌, vec_len}
use Rattle.fx_scene_plan.specs.Plans.{standing_of}
use Rattle.fx_stage_model.specs.World.{IsUnwatched}
use Rattle.fx_scene_raise.proofs.TaskLemmas.{Completes}
use Rattle.fx_scene_raise.proofs.raising.take_tasks.Given as goal

abbrev pub invariant-loop-task : goal.invariant-loop-task
invariant-loop-task g l =
    Completes (standing_of l.stage l.keys.items) l.left.items l.fn.stage l.fn.tasks.items
    × (l.work ≡ record l.fn.work { evaluated = l.work.evaluated })
    × (IsUnwatched l.fn.stage → (l.work.evaluated ≤ l.fn.work.evaluated) × IsUnwatched l.stage)

abbrev pub decreases-loop-task : goal.decreases-loop-task
decreases-loop-task g l = vec_len l.left
