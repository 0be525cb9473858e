-- what is left completes what stands
use Rattle.std.proofs.Common.{◌≡◌, ◌≤◌, vec_len}
use Rattle.fx_scene_plan.specs.Plans.{standing_of}
use Rattle.fx_stage_model.specs.World.{IsUnwatched}
use Rattle.fx_scene_build.proofs.StepLemmas.{Completes}
use Rattle.fx_scene_build.proofs.building.build_scene.Given as goal

abbrev pub invariant-loop-step : goal.invariant-loop-step
invariant-loop-step g l =
    Completes (standing_of l.stage l.keys.items) l.left.items l.fn.stage l.fn.plan.items
    × (l.work ≡ record l.fn.work { evaluated = l.work.evaluated })
    × (IsUnwatched l.fn.stage → (l.work.evaluated ≤ l.fn.work.evaluated) × IsUnwatched l.stage)

abbrev pub decreases-loop-step : goal.decreases-loop-step
decreases-loop-step g l = vec_len l.left
