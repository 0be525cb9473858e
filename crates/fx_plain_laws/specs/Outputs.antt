-- The slots of memory in which a run keeps the nodes of its scene, and what its script makes.
use Rattle.std.specs.Prelude.{◌≡◌, ℕ, List, [], ◌∷◌, ◌++◌, Result, Ok, Err}
use Rattle.fx_load.specs.Loading.{Loaded}
use Rattle.fx_load_parts.specs.Files.{Run}
use Rattle.fx_plain.specs.CommandLine.{Plan, Plays, PlaysDemo, ShowsUsage}
use Rattle.fx_plain.specs.Demos.{demo_files, demo_run}
use Rattle.fx_plain.specs.PlainPlayer.{Extent, IsOutput, IsOutputOfLoaded, IsOutputOfRun, Output, files_at_fault, files_loaded, lines_in, scene_at_fault, script_played}
use Rattle.fx_plain_runs.specs.declared.manners.Manner.{Manner}
use Rattle.fx_port.specs.Files.{Files}
use Rattle.fx_scene_acts.specs.Acts.{IsActedFrom, all_done, one_done, one_ends}
use Rattle.fx_scene_acts.specs.declared.tasks.SceneFault.{SceneFault}
use Rattle.fx_scene_acts.specs.declared.tasks.Task.{Task}
use Rattle.fx_scene_plan.specs.Plans.{Standing, unbuilt}
use Rattle.fx_stage_model.specs.World.{nowhere}
use Rattle.fx_plain_laws.specs.Scripts.{DrawsInOrder, slots_of_script}

-- of the tasks of a scene
abbrev pub slots_of_tasks : (standing : Standing) (tasks : List Task) (answer : Result Standing SceneFault)
    → IsActedFrom standing tasks answer → List ℕ
slots_of_tasks standing tasks answer (all_done s) = []
slots_of_tasks standing tasks answer (one_ends slot s task rest fault is) = slot ∷ []
slots_of_tasks standing tasks answer (one_done slot s next task rest reply is done) =
    slot ∷ slots_of_tasks next rest reply done

-- of a run whose files were loaded
abbrev pub slots_of_output : (manner : Manner) (extent : Extent) (loaded : Loaded) (out : Output)
    → IsOutputOfLoaded manner extent loaded out → List ℕ
slots_of_output manner extent loaded out (scene_at_fault fault faulty) =
    slots_of_tasks (unbuilt nowhere) loaded.tasks (Err fault) faulty
slots_of_output manner extent loaded out (script_played first bytes begins written) =
    slots_of_tasks (unbuilt nowhere) loaded.tasks (Ok begins.standing) begins.built
    ++ slots_of_script manner.form first (lines_in extent loaded.lines) written.tolds written.played

-- each scene that it draws is in order
abbrev pub OutputInOrder : (manner : Manner) (extent : Extent) (loaded : Loaded) (out : Output)
    → IsOutputOfLoaded manner extent loaded out → Type 0
OutputInOrder manner extent loaded out (scene_at_fault fault faulty) = Unit {0}
OutputInOrder manner extent loaded out (script_played first bytes begins written) =
    DrawsInOrder manner.form first (lines_in extent loaded.lines) written.tolds written.played

-- of a run over files
abbrev pub slots_of_files : (run : Run) (manner : Manner) (files : Files) (extent : Extent) (out : Output)
    → IsOutputOfRun run manner files extent out → List ℕ
slots_of_files run manner files extent out (files_at_fault fault elaborated) = []
slots_of_files run manner files extent out (files_loaded loaded told elaborated is) =
    slots_of_output manner extent loaded told is

abbrev pub FilesInOrder : (run : Run) (manner : Manner) (files : Files) (extent : Extent) (out : Output)
    → IsOutputOfRun run manner files extent out → Type 0
FilesInOrder run manner files extent out (files_at_fault fault elaborated) = Unit {0}
FilesInOrder run manner files extent out (files_loaded loaded told elaborated is) =
    OutputInOrder manner extent loaded told is

-- of what is played for the words
abbrev pub slots_of_plan : (plan : Plan) (files : Files) (extent : Extent) (out : Output)
    → IsOutput plan files extent out → List ℕ
slots_of_plan (Plays run manner) files extent out is = slots_of_files run manner files extent out is
slots_of_plan (PlaysDemo number manner) files extent out is =
    slots_of_files demo_run manner (demo_files number) extent out is
slots_of_plan ShowsUsage files extent out is = []

abbrev pub PlanInOrder : (plan : Plan) (files : Files) (extent : Extent) (out : Output) → IsOutput plan files extent out
    → Type 0
PlanInOrder (Plays run manner) files extent out is = FilesInOrder run manner files extent out is
PlanInOrder (PlaysDemo number manner) files extent out is =
    FilesInOrder demo_run manner (demo_files number) extent out is
PlanInOrder ShowsUsage files extent out is = Unit {0}

-- two outputs of the plain player over the same files that keep what they make in the same slots are one
abbrev pub OneOutput : Type 0
OneOutput = (plan : Plan) (files : Files) (extent : Extent) (out told : Output) (one : IsOutput plan files extent out)
    (other : IsOutput plan files extent told) → PlanInOrder plan files extent out one
    → slots_of_plan plan files extent out one ≡ slots_of_plan plan files extent told other → out ≡ told
