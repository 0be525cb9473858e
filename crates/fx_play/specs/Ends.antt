-- How a run ends, and what is said of it.
use Rattle.std.specs.Prelude.{◌≡◌, ◌⊎◌, ℕ, List, Option, Result, Ok, Err}
use Rattle.fx_load.specs.Loading.{Loaded}
use Rattle.fx_load_parts.specs.Views.{fault_of}
use Rattle.fx_load_parts.specs.declared.files.LoadError.{LoadError}
use Rattle.fx_load_parts.specs.declared.files.LoadError.TheVariants as load
use Rattle.fx_plain.specs.CommandLine.{Fetches, Plan, PlaysDemo, ShowsUsage}
use Rattle.fx_plain.specs.PlainPlayer as spec
use Rattle.fx_plain.specs.declared.answers.Status.{Status}
use Rattle.fx_plain.specs.declared.answers.Status.TheVariants.{Done, Usage, Refused, ReadFault, WriteFault, NoMemory}
use Rattle.fx_plain_runs.specs.declared.manners.Manner.{Manner}
use Rattle.fx_port.specs.Causes.{HasCause, Rose}
use Rattle.fx_port.specs.Files.{Files}
use Rattle.fx_port.specs.Pieces.{GrewByPrefix, Writes, grown}
use Rattle.fx_port.specs.declared.pieces.PutError.{PutError}
use Rattle.fx_port.specs.declared.pieces.PutError.TheVariants as put
use Rattle.fx_scene_raise.specs.declared.errors.RaiseError.{RaiseError}
use Rattle.fx_scene_raise.specs.declared.errors.RaiseError.TheVariants as raise

-- as it should, or as its writing failed
abbrev pub ended_as : Result (Unit {0}) PutError → Status → Status
ended_as (Ok written) status = status
ended_as (Err put.Failed) status = WriteFault
ended_as (Err put.Memory) status = NoMemory

-- an output was told, or a part of it
pub record IsTold (out : spec.Output) (puts_old puts_new : ℕ) (old new : Option (List ℕ)) (answer : Status) : Type 0
  where
    pub written : Result (Unit {0}) PutError
    pub cause : HasCause put.Failed puts_old puts_new written
    pub writes : Writes old new written out.bytes
    pub ends : answer ≡ ended_as written out.status

-- this is the answer, and nothing was written
pub record IsSilent (status : Status) (old new : Option (List ℕ)) (answer : Status) : Type 0 where
  pub same : new ≡ old
  pub ends : answer ≡ status

-- why the files weren't loaded is told
abbrev pub IsUnloadedTold : LoadError → ℕ → ℕ → Option (List ℕ) → Option (List ℕ) → Status → Type 0
IsUnloadedTold (load.Fault fault) puts_old puts_new old new answer =
    IsTold (spec.refused_with (fault_of fault)) puts_old puts_new old new answer
IsUnloadedTold load.Failed puts_old puts_new old new answer = IsSilent ReadFault old new answer
IsUnloadedTold load.Memory puts_old puts_new old new answer = IsSilent NoMemory old new answer

-- why a scene wasn't raised is told, of one of these files
abbrev pub IsUnstagedTold : List (List ℕ) → RaiseError → ℕ → ℕ → Option (List ℕ) → Option (List ℕ) → Status → Type 0
IsUnstagedTold files (raise.Fault fault) puts_old puts_new old new answer =
    IsTold (spec.refused_with (spec.scene_fault files fault)) puts_old puts_new old new answer
IsUnstagedTold files raise.Memory puts_old puts_new old new answer = IsSilent NoMemory old new answer

-- a beginning of what is written of loaded files
pub data IsWithinLoaded (manner : Manner) (loaded : Loaded) (old new : Option (List ℕ)) : Type 0 where
  none_written : new ≡ old → IsWithinLoaded manner loaded old new
  some_written : (extent : spec.Extent) (out : spec.Output) → spec.IsOutputOfLoaded manner extent loaded out
      → GrewByPrefix old new out.bytes → IsWithinLoaded manner loaded old new

-- all that is written of loaded files
pub record AnswersLoaded (manner : Manner) (loaded : Loaded) (old new : Option (List ℕ)) (answer : Status)
    : Type 0 where
  pub out : spec.Output
  pub plain : spec.IsOutputOfLoaded manner spec.all_lines loaded out
  pub bytes : new ≡ grown old out.bytes
  pub status : answer ≡ out.status

-- what is said of a run whose files are loaded
pub record IsLoadedPlayed (manner : Manner) (loaded : Loaded) (puts_old puts_new : ℕ)
    (old new : Option (List ℕ)) (answer : Status) : Type 0 where
  pub answers : spec.IsAnswer answer → AnswersLoaded manner loaded old new answer
  pub within : IsWithinLoaded manner loaded old new
  pub write : answer ≡ WriteFault → Rose puts_old puts_new
  pub usage : ¬ (answer ≡ Usage)
  pub read : ¬ (answer ≡ ReadFault)

-- answers that come before a scene is built
abbrev pub IsIdle : Status → Type 0
IsIdle Done = ⊥
IsIdle Usage = Unit {0}
IsIdle Refused = ⊥
IsIdle ReadFault = Unit {0}
IsIdle WriteFault = ⊥
IsIdle NoMemory = ⊥

-- what is said of a call that plays
pub record IsPlayed (plan : Plan) (told : Option Files) (fetches_old fetches_new puts_old puts_new : ℕ)
    (old new : Option (List ℕ)) (answer : Status) : Type 0 where
  pub answers : (files : Files) → spec.IsOver told plan files → spec.IsAnswer answer →
      spec.Answers plan files old new answer
  pub within : (files : Files) → spec.IsOver told plan files → spec.IsWithin plan files old new
  pub read : answer ≡ ReadFault → Rose fetches_old fetches_new × (Fetches plan × (new ≡ old))
  pub write : answer ≡ WriteFault → Rose puts_old puts_new
  pub usage : answer ≡ Usage → plan ≡ ShowsUsage
  pub runs : (answer ≡ Done) ⊎ (answer ≡ Refused) → ¬ (plan ≡ ShowsUsage)

-- what is said of a call that plays a demo: all that, whatever a shelf tells and however often it failed
abbrev pub IsDemoPlayed : ℕ → Manner → ℕ → ℕ → Option (List ℕ) → Option (List ℕ) → Status → Type 0
IsDemoPlayed number manner puts_old puts_new old new answer =
    (told : Option Files) (fetches_old fetches_new : ℕ)
    → IsPlayed (PlaysDemo number manner) told fetches_old fetches_new puts_old puts_new old new answer
