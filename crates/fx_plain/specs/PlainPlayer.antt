-- The plain player: all that a run writes, and how it ends. It is a relation, since a frame is told by equations; of a
-- run over the first so many lines of a script it tells a beginning of all that is written.
use Rattle.std.specs.Prelude.{◌≡◌, ℕ, List, Option, Some, Ok, Err, take}
use Rattle.fx_load.specs.Loading.{IsElaborated, Loaded}
use Rattle.fx_load_parts.specs.Faults.{Fault, fault_at, fault_line}
use Rattle.fx_load_parts.specs.Files.{Run, name_in}
use Rattle.fx_plain_frames.specs.Games.{Game}
use Rattle.fx_plain_runs.specs.Runs.{IsBegun, IsFaulty, IsWritten}
use Rattle.fx_plain_runs.specs.declared.manners.Manner.{Manner}
use Rattle.fx_port.specs.Files.{Files}
use Rattle.fx_port.specs.Pieces.{GrewByPrefix, grown}
use Rattle.fx_scene_acts.specs.declared.tasks.SceneFault.{SceneFault}
use Rattle.fx_script_commands.specs.Requests.{Numbered}
use Rattle.fx_plain.specs.CommandLine.{Plan, Plays, PlaysDemo, ShowsUsage, usage_line}
use Rattle.fx_plain.specs.Demos.{demo_files, demo_run}
use Rattle.fx_plain.specs.declared.answers.Status.{Status}
use Rattle.fx_plain.specs.declared.answers.Status.TheVariants.{Done, Usage, Refused, ReadFault, WriteFault, NoMemory}

-- what is written, and how the run ends
pub record Output : Type 0 where
  pub bytes : List ℕ
  pub status : Status

-- a fault ends the run: it is told in one line
abbrev pub refused_with : Fault → Output
refused_with fault = record { bytes = fault_line fault; status = Refused }

abbrev pub usage_told : Output
usage_told = record { bytes = usage_line; status = Usage }

-- which lines of the script are played: all of them, or so many of the first
pub data Extent : Type 0 where
  all_lines : Extent
  first_lines : ℕ → Extent

abbrev pub lines_in : Extent → List Numbered → List Numbered
lines_in all_lines lines = lines
lines_in (first_lines count) lines = take count lines

-- a fault of what is done for a scene, told of its file
abbrev pub scene_fault : List (List ℕ) → SceneFault → Fault
scene_fault files fault = fault_at fault.kind (name_in files fault.place.file) fault.place.position

-- what is written of a run whose files were loaded
pub data IsOutputOfLoaded (manner : Manner) (extent : Extent) (loaded : Loaded) : Output → Type 0 where
  scene_at_fault : (fault : SceneFault) → IsFaulty loaded.tasks fault
      → IsOutputOfLoaded manner extent loaded (refused_with (scene_fault loaded.files fault))
  script_played : (first : Game) (bytes : List ℕ) → IsBegun manner.window loaded.tasks first
      → IsWritten manner loaded.warnings first (lines_in extent loaded.lines) bytes
      → IsOutputOfLoaded manner extent loaded (record { bytes = bytes; status = Done })

-- what is written of a run over files
pub data IsOutputOfRun (run : Run) (manner : Manner) (files : Files) (extent : Extent) : Output → Type 0 where
  files_at_fault : (fault : Fault) → IsElaborated run files (Err fault)
      → IsOutputOfRun run manner files extent (refused_with fault)
  files_loaded : (loaded : Loaded) (out : Output) → IsElaborated run files (Ok loaded)
      → IsOutputOfLoaded manner extent loaded out → IsOutputOfRun run manner files extent out

-- what the plain player writes over these files; a demo has its own
abbrev pub IsOutput : Plan → Files → Extent → Output → Type 0
IsOutput (Plays run manner) files extent out = IsOutputOfRun run manner files extent out
IsOutput (PlaysDemo number manner) files extent out = IsOutputOfRun demo_run manner (demo_files number) extent out
IsOutput ShowsUsage files extent out = out ≡ usage_told

-- the files that a run is over: those that the shelf tells, and any where nothing is fetched
abbrev pub IsOver : Option Files → Plan → Files → Type 0
IsOver told (Plays run manner) files = told ≡ Some files
IsOver told (PlaysDemo number manner) files = Unit {0}
IsOver told ShowsUsage files = Unit {0}

-- the run came to its end
abbrev pub IsAnswer : Status → Type 0
IsAnswer Done = Unit {0}
IsAnswer Usage = Unit {0}
IsAnswer Refused = Unit {0}
IsAnswer ReadFault = ⊥
IsAnswer WriteFault = ⊥
IsAnswer NoMemory = ⊥

-- what was written grew by exactly the plain player's bytes, and the answer is its status
pub record Answers (plan : Plan) (files : Files) (old new : Option (List ℕ)) (answer : Status) : Type 0 where
  pub out : Output
  pub plain : IsOutput plan files all_lines out
  pub bytes : new ≡ grown old out.bytes
  pub status : answer ≡ out.status

-- nothing was written, or a beginning of what the plain player writes of all lines, or of the first so many
pub data IsWithin (plan : Plan) (files : Files) (old new : Option (List ℕ)) : Type 0 where
  nothing_written : new ≡ old → IsWithin plan files old new
  part_written : (extent : Extent) (out : Output) → IsOutput plan files extent out → GrewByPrefix old new out.bytes
      → IsWithin plan files old new
