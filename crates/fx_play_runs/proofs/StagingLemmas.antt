-- A game of a raised scene.
use Rattle.std.proofs.Common.{◌≡◌, ℕ, List, Option, Result, Ok, Err, sym, subst}
use Rattle.std.specs.Result.{IsErrAnd}
use Rattle.fx_plain_frames.specs.Games.{Game as Played, begun}
use Rattle.fx_plain_runs.specs.Runs.{IsBegun, in_window}
use Rattle.fx_play_frames.specs.declared.game.Game.{Game}
use Rattle.fx_scene_acts.specs.Acts.{IsActed}
use Rattle.fx_scene_acts.specs.declared.tasks.Task.{Task}
use Rattle.fx_scene_plan.specs.Plans.{Standing}
use Rattle.fx_scene_raise.specs.Raising.{IsRaised}
use Rattle.fx_scene_raise.specs.declared.errors.RaiseError.{RaiseError}
use Rattle.fx_scene_raise.specs.declared.errors.RaiseError.TheVariants.{Fault, Memory}
use Rattle.fx_stage_model.specs.World.{World, nowhere}
use Rattle.fx_play_runs.specs.Staging.{IsStaged}

pub raised : (window : Option (ℕ × ℕ)) (tasks : List Task) (bare : World) (standing : Standing) (first : Played)
    → bare ≡ nowhere → IsActed tasks bare (Ok standing) → first ≡ begun (in_window window standing.world)
    → IsBegun window tasks first
raised window tasks bare standing first same built begins = record {
  standing = standing;
  built = subst (λ (world : World). IsActed tasks world (Ok standing)) same built;
  begins = begins;
}

-- the fault of the tasks is told on
pub not_raised : (window : Option (ℕ × ℕ)) (tasks : List Task) (bare world : World) (error : RaiseError)
    (result : Result Game RaiseError) → bare ≡ nowhere → IsRaised tasks bare world (Err error)
    → IsErrAnd result (λ e. e ≡ error) → IsStaged window tasks result
not_raised window tasks bare world error (Ok game) same raised told = absurd told
not_raised window tasks bare world error (Err other) same raised told =
    let IsSuch : RaiseError → Type 0 = λ e. IsStaged window tasks (Err e) in
    subst IsSuch (sym told) (by_error error (subst (λ (w : World). IsRaised tasks w world (Err error)) same raised))
  where
    by_error : (e : RaiseError) → IsRaised tasks nowhere world (Err e) → IsStaged window tasks (Err e)
    by_error (Fault fault) raised = raised
    by_error Memory raised = tt
