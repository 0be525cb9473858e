-- What is done for the acts of a document: steps are taken, bindings wait, and the style sheets that are wanted are
-- fetched and read where they are asked for. A location is judged before anything is fetched; at most 63 files are
-- fetched behind the script. The first fault ends all.
use Rattle.std.specs.Prelude.{◌≡◌, ◌<◌, ◌≤◌, ℕ, Bool, true, false, not, List, [], ◌∷◌, Some, None, Ok, Err, drop, length, take}
use Rattle.std.specs.List.{prefix_len}
use Rattle.fx_base.specs.declared.positions.Place.{Place}
use Rattle.fx_base.specs.declared.positions.Position.{Position}
use Rattle.fx_css_types.specs.declared.sheets.Sheet.{Sheet}
use Rattle.fx_load_parts.specs.Faults.{Fault}
use Rattle.fx_load_parts.specs.Sheets.{IsSheetIn}
use Rattle.fx_port.specs.Files.{Files}
use Rattle.fx_scene_acts.specs.Acts.{act_of, is_node_act}
use Rattle.fx_scene_acts.specs.declared.acts.Act.{Act}
use Rattle.fx_scene_acts.specs.declared.acts.Binding.{Binding}
use Rattle.fx_scene_acts.specs.declared.acts.Deed.TheVariants as deed
use Rattle.fx_scene_acts.specs.declared.tasks.Doing.TheVariants as doing
use Rattle.fx_scene_flaws.specs.declared.flaws.Flaw.{Flaw}
use Rattle.fx_scene_flaws.specs.declared.flaws.Flaw.TheVariants as flaw
use Rattle.fx_scene_course.specs.Courses.{Course, place_in, with_binding, with_fault_in, with_file, with_flaw, with_step, with_task}
use Rattle.fx_scene_course.specs.Opens.{Open, step_in}
use Rattle.fx_scene_places.specs.Places.{joined}
use Rattle.fx_scene_plan.specs.declared.steps.PlannedStep.{PlannedStep}
use Rattle.fx_scene_plan.specs.declared.steps.PlannedStep.TheVariants as planned

abbrev pub with_read : Place → ℕ → Sheet → Course → Course
with_read place node sheet course = with_task course place (doing.Step (planned.Sheet (Some node) sheet))

-- the style sheet in the file of this name is a further one of the node
pub data IsSheetAdded (files : Files) (place : Place) (node : ℕ) (target : List ℕ) (course : Course)
    : Course → Type 0 where
  one_too_many : 63 ≤ length course.files
      → IsSheetAdded files place node target course (with_flaw course place flaw.Limit)
  sheet_refused : (fault : Fault) → length course.files < 63
      → IsSheetIn files (length course.files) target (Err fault)
      → IsSheetAdded files place node target course
      (with_fault_in (with_file course target) (length course.files) fault)
  sheet_read : (sheet : Sheet) → length course.files < 63 → IsSheetIn files (length course.files) target (Ok sheet)
      → IsSheetAdded files place node target course
      (with_read place node sheet (with_file course target))

-- what is done for one act of a document
pub data IsActDone (files : Files) (here : Open) (course : Course) : Act → Course → Type 0 where
  step_taken : (place : Position) (step : PlannedStep)
      → IsActDone files here course (act_of place (deed.Step step))
      (with_step course (place_in here.file place) (step_in here step))
  flaw_told : (place : Position) (mistake : Flaw)
      → IsActDone files here course (act_of place (deed.Flaw mistake))
      (with_flaw course (place_in here.file place) mistake)
  binding_kept : (place : Position) (binding : Binding)
      → IsActDone files here course (act_of place (deed.Bind binding))
      (with_binding course (place_in here.file place) binding)
  bad_location : (place : Position) (node : ℕ) (location : List ℕ) → joined here.name location ≡ None
      → IsActDone files here course (act_of place (deed.Sheet node location))
      (with_flaw course (place_in here.file place) flaw.Value)
  sheet_located : (place : Position) (node : ℕ) (location target : List ℕ) (next : Course)
      → joined here.name location ≡ Some target
      → IsSheetAdded files (place_in here.file place) node target course next
      → IsActDone files here course (act_of place (deed.Sheet node location)) next
  sheet_named : (place : Position) (node : ℕ) (name : List ℕ) (next : Course)
      → IsSheetAdded files (place_in here.file place) node name course next
      → IsActDone files here course (act_of place (deed.File node name)) next
  node_passed : (place : Position) → IsActDone files here course (act_of place deed.Node) course

abbrev pub is_other_act : Act → Bool
is_other_act act = not (is_node_act act)

-- how many acts there are before the first node that is read first
abbrev pub acts_before : List Act → ℕ
acts_before acts = prefix_len is_other_act acts

-- these acts, behind so many that are done
abbrev pub acts_between : ℕ → List Act → List Act
acts_between done acts = drop done (take (acts_before acts) acts)

-- what is done for acts, one after another
pub data AreActsDone (files : Files) (here : Open) : Course → List Act → Course → Type 0 where
  no_acts : (course : Course) → AreActsDone files here course [] course
  acts_end : (course : Course) (acts : List Act) → course.at_fault ≡ true → AreActsDone files here course acts course
  one_act : (course next last : Course) (act : Act) (acts : List Act) → course.at_fault ≡ false
      → IsActDone files here course act next → AreActsDone files here next acts last
      → AreActsDone files here course (act ∷ acts) last
