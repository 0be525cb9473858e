-- A step that is a task.
use Rattle.std.proofs.Common.{◌≡◌, ℕ, OnOk, Result, Ok, Err, refl, ◌∙◌, sym, ap, subst}
use Rattle.fx_base.specs.declared.positions.Place.{Place}
use Rattle.fx_scene_acts.specs.Acts.{acted, task_of, told}
use Rattle.fx_scene_acts.specs.declared.tasks.Doing.TheVariants as doing
use Rattle.fx_scene_acts.specs.declared.tasks.Task.{Task}
use Rattle.fx_scene_build.specs.Steps.{IsStepTaken}
use Rattle.fx_scene_plan.specs.Plans.{Standing, stepped}
use Rattle.fx_scene_plan.specs.declared.steps.PlannedStep.{PlannedStep}
use Rattle.fx_scene_raise.specs.Raising.{IsTaskTaken, IsErrorTold, IsTold}
use Rattle.fx_scene_raise.specs.declared.errors.RaiseError.{RaiseError}
use Rattle.fx_stage_types.specs.declared.answers.StageError.{StageError}
use Rattle.fx_stage_types.specs.declared.answers.StageError.TheVariants as stage

abbrev Answer : Type 0
Answer = Result (Unit {0}) StageError

abbrev Told : Type 0
Told = Result (Unit {0}) RaiseError

abbrev step_task : Place → PlannedStep → Task
step_task place step = task_of place (doing.Step step)

acted_as : (slot : ℕ) (place : Place) (step : PlannedStep) (before : Standing)
    → acted slot (step_task place step) before ≡ told place (stepped slot step before)
unfolding acted
acted_as slot place step before = refl

by_error : (place : Place) (step : PlannedStep) (before now : Standing) (error : StageError) (other : RaiseError)
    → IsStepTaken {T = Unit {0}} step before now (Err error) → IsErrorTold place error other
    → IsTaskTaken {T = Unit {0}} (step_task place step) before now (Err other)
by_error place step before now (stage.Refused word) other taken e =
    let IsTaken : RaiseError → Type 0 = λ x. IsTaskTaken {T = Unit {0}} (step_task place step) before now (Err x) in
    subst IsTaken (sym e) (taken.0, acted_as taken.0 place step before ∙ ap (told place) taken.1)
by_error place step before now stage.Memory other taken e =
    let IsTaken : RaiseError → Type 0 = λ x. IsTaskTaken {T = Unit {0}} (step_task place step) before now (Err x) in
    subst IsTaken (sym e) tt

pub step_taken : (place : Place) (step : PlannedStep) (before now : Standing) (answer : Answer) (result : Told)
    → IsStepTaken step before now answer → IsTold place answer result
    → IsTaskTaken (step_task place step) before now result
step_taken place step before now (Ok done) (Ok other) taken e =
    (taken.0, acted_as taken.0 place step before ∙ ap (told place) taken.1)
step_taken place step before now (Ok done) (Err other) taken e = absurd e
step_taken place step before now (Err error) (Ok other) taken e = absurd e
step_taken place step before now (Err error) (Err other) taken e = by_error place step before now error other taken e

-- what is so of a step that was made is so of its task
pub told_so : (A : Type 0) (place : Place) (answer : Answer) (result : Told) → IsTold place answer result → OnOk answer A
    → OnOk result A
told_so A place (Ok done) (Ok other) says a = a
told_so A place (Ok done) (Err other) says a = tt
told_so A place (Err error) (Ok other) says a = absurd says
told_so A place (Err error) (Err other) says a = tt
