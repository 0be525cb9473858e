-- Loading: the files of a run, in the order of work, and the first fault.
use Rattle.std.specs.Prelude.{◌≡◌, ℕ, List, [], ◌∷◌, ◌++◌, None, Result, Ok, Err, length, map}
use Rattle.fx_css_types.specs.declared.sheets.Sheet.{Sheet}
use Rattle.fx_doc_grammar.specs.Grammar.{Reading}
use Rattle.fx_load.specs.Telling.{warnings_of}
use Rattle.fx_load_parts.specs.Faults.{Fault, nowhere}
use Rattle.fx_load_parts.specs.Files.{Run}
use Rattle.fx_load_parts.specs.Scripts.{script_in}
use Rattle.fx_load_parts.specs.Sheets.{AreSheets}
use Rattle.fx_port.specs.Files.{Files}
use Rattle.fx_scene_acts.specs.Acts.{task_of}
use Rattle.fx_scene_acts.specs.declared.tasks.Doing.TheVariants.{Step}
use Rattle.fx_scene_acts.specs.declared.tasks.Task.{Task}
use Rattle.fx_scene_course.specs.Courses.{Course, first_course, place_in}
use Rattle.fx_scene_load.specs.Documents.{document_in}
use Rattle.fx_scene_load.specs.Reading.{IsSceneRead}
use Rattle.fx_scene_plan.specs.declared.steps.PlannedStep.TheVariants as planned
use Rattle.fx_script_commands.specs.Requests.{Numbered}

-- a sheet of the words is one of the scene
abbrev pub sheet_task : Sheet → Task
sheet_task sheet = task_of (place_in 0 nowhere) (Step (planned.Sheet None sheet))

-- what builds the scene, all files that were fetched behind the script, the lines that are played on the scene, and
-- what is told before them of what was dropped of sheets
pub record Loaded : Type 0 where
  pub tasks : List Task
  pub files : List (List ℕ)
  pub lines : List Numbered
  pub warnings : List ℕ

abbrev pub loaded_by : List Task → List (List ℕ) → List Numbered → Loaded
loaded_by tasks files lines =
    record { tasks = tasks; files = files; lines = lines; warnings = warnings_of files tasks }

-- what is done before the document of the scene is read: the sheets of the words are those of the scene
abbrev pub course_before : Run → List Sheet → Course
course_before run sheets = first_course (map sheet_task sheets) (run.sheets ++ (run.scene ∷ []))

-- the script is fetched and read first, then the sheets in their order, then the scene with the files that it asks for
pub data IsElaborated (run : Run) (files : Files) : Result Loaded Fault → Type 0 where
  script_refused : (fault : Fault) → script_in files run.script ≡ Err fault → IsElaborated run files (Err fault)
  sheet_refused : (lines : List Numbered) (fault : Fault) → script_in files run.script ≡ Ok lines
      → AreSheets files run.sheets (Err fault) → IsElaborated run files (Err fault)
  scene_refused : (lines : List Numbered) (sheets : List Sheet) (fault : Fault)
      → script_in files run.script ≡ Ok lines → AreSheets files run.sheets (Ok sheets)
      → document_in files (length run.sheets) run.scene ≡ Err fault → IsElaborated run files (Err fault)
  all_read : (lines : List Numbered) (sheets : List Sheet) (document : Reading) (tasks : List Task)
      (names : List (List ℕ)) → script_in files run.script ≡ Ok lines → AreSheets files run.sheets (Ok sheets)
      → document_in files (length run.sheets) run.scene ≡ Ok document
      → IsSceneRead files (length run.sheets) run.scene (course_before run sheets) document tasks names
      → IsElaborated run files (Ok (loaded_by tasks names lines))
