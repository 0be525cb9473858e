-- What is answered of one step of a plan.
use Rattle.std.specs.Prelude.{◌≡◌, ℕ, Result, Ok, Err}
use Rattle.fx_tree.specs.declared.TreeError.{TreeError}
use Rattle.fx_tree.specs.declared.TreeError.TheVariants as tree
use Rattle.fx_stage_types.specs.declared.answers.StageError.{StageError}
use Rattle.fx_stage_types.specs.declared.answers.StageError.TheVariants.{Refused, Memory}
use Rattle.fx_stage_types.specs.declared.refusals.Refusal.TheVariants.{Unknown}
use Rattle.fx_scene_plan.specs.declared.steps.PlannedStep.{PlannedStep}
use Rattle.fx_scene_plan.specs.Plans.{Standing, stepped}

-- the step makes what now stands, or is refused by this word; want of memory says nothing
abbrev pub IsStepTaken : {T : Type 0} → PlannedStep → Standing → Standing → Result T StageError → Type 0
IsStepTaken step before now (Ok done) = (slot : ℕ) × (stepped slot step before ≡ Ok now)
IsStepTaken step before now (Err (Refused word)) = (slot : ℕ) × (stepped slot step before ≡ Err word)
IsStepTaken step before now (Err Memory) = Unit {0}

-- why there is no path to a node
abbrev pub IsPathRefusal : TreeError → StageError → Type 0
IsPathRefusal tree.Memory error = error ≡ Memory
IsPathRefusal _ error = error ≡ Refused Unknown
