-- What is done so far for a scene, whichever of its documents asks for it.
use Rattle.std.specs.Prelude.{ℕ, Bool, false, true, ◌==◌, ◌&&◌, ◌||◌, List, [], ◌∷◌, ◌++◌, codes, Option, Some, None}
use Rattle.std.specs.List.{list_any}
use Rattle.std.specs.Str.{bytes_eq}
use Rattle.fx_base.specs.declared.positions.Place.{Place}
use Rattle.fx_base.specs.declared.positions.Position.{Position}
use Rattle.fx_kinds.specs.declared.classes.Class.{Class}
use Rattle.fx_load_parts.specs.Faults.{Fault}
use Rattle.fx_scene_acts.specs.Acts.{task_of}
use Rattle.fx_scene_acts.specs.declared.acts.Binding.{Binding}
use Rattle.fx_scene_acts.specs.declared.tasks.Doing.{Doing}
use Rattle.fx_scene_acts.specs.declared.tasks.Doing.TheVariants as doing
use Rattle.fx_scene_acts.specs.declared.tasks.Task.{Task}
use Rattle.fx_scene_flaws.specs.declared.flaws.FaultKind.{FaultKind}
use Rattle.fx_scene_flaws.specs.declared.flaws.FaultKind.TheVariants.{Flawed}
use Rattle.fx_scene_flaws.specs.declared.flaws.Flaw.{Flaw}
use Rattle.fx_scene_course.specs.declared.courses.Waiting.{Waiting}
use Rattle.fx_scene_plan.specs.declared.steps.PlannedStep.{PlannedStep}
use Rattle.fx_scene_plan.specs.declared.steps.PlannedStep.TheVariants as planned
use Rattle.fx_scene_things.specs.Names.{Names}
use Rattle.fx_scene_things.specs.Spaces.{Space, space_of}

-- the tasks so far, the files that were fetched behind the script, the classes of the nodes by their ordinals, the
-- bindings that wait for names, the names of the documents that are whole, and whether the last task is a fault
pub record Course : Type 0 where
  pub tasks : List Task
  pub files : List (List ℕ)
  pub classes : List Class
  pub bindings : List Waiting
  pub spaces : List Space
  pub at_fault : Bool

abbrev pub first_course : List Task → List (List ℕ) → Course
first_course tasks files =
    record { tasks = tasks; files = files; classes = []; bindings = []; spaces = []; at_fault = false }

abbrev pub place_in : ℕ → Position → Place
place_in file position = record { file = file; position = position }

abbrev pub with_task : Course → Place → Doing → Course
with_task course place doing = record course { tasks = course.tasks ++ (task_of place doing ∷ []) }

abbrev pub with_step : Course → Place → Option PlannedStep → Course
with_step course place None = course
with_step course place (Some step) = with_task course place (doing.Step step)

-- nothing is done behind a fault
abbrev pub with_fault : Course → Place → FaultKind → Course
with_fault course place kind =
    record course { tasks = course.tasks ++ (task_of place (doing.Fault kind) ∷ []); at_fault = true }

abbrev pub with_flaw : Course → Place → Flaw → Course
with_flaw course place mistake = with_fault course place (Flawed mistake)

-- a fault of the file of this number
abbrev pub with_fault_in : Course → ℕ → Fault → Course
with_fault_in course file fault = with_fault course (place_in file fault.position) fault.kind

abbrev pub with_file : Course → List ℕ → Course
with_file course name = record course { files = course.files ++ (name ∷ []) }

abbrev pub with_binding : Course → Place → Binding → Course
with_binding course place binding =
    record course { bindings = course.bindings ++ (record { place = place; binding = binding } ∷ []) }

abbrev pub with_class : Course → Option Class → Course
with_class course None = course
with_class course (Some class) = record course { classes = course.classes ++ (class ∷ []) }

abbrev pub with_space : Course → ℕ → Names → Course
with_space course file names = record course { spaces = course.spaces ++ (space_of file names ∷ []) }

-- whether the property `id` of a node was given or bound

abbrev pub is_id : ℕ → ℕ → List ℕ → Bool
is_id node other name = other == node && bytes_eq name (codes "id")

abbrev pub is_id_step : ℕ → PlannedStep → Bool
is_id_step node (planned.Code property value) = is_id node property.node property.property
is_id_step node _ = false

abbrev pub is_id_doing : ℕ → Doing → Bool
is_id_doing node (doing.Step step) = is_id_step node step
is_id_doing node _ = false

abbrev pub gives_id : ℕ → Task → Bool
gives_id node task = is_id_doing node task.doing

abbrev pub binds_id : ℕ → Waiting → Bool
binds_id node waiting = is_id node waiting.binding.node waiting.binding.property

unfoldable pub has_id : Course → ℕ → Bool
has_id course node = list_any (gives_id node) course.tasks || list_any (binds_id node) course.bindings
