-- How much work a run may be, if it is played to its end.
use Rattle.std.specs.Prelude.{◌≡◌, ℕ, List, Ok, Option}
use Rattle.fx_load.specs.Loading.{IsElaborated, Loaded}
use Rattle.fx_load_parts.specs.Files.{Run}
use Rattle.fx_plain_dispatch.specs.Costs.{IsDoneWithin}
use Rattle.fx_plain_frames.specs.Games.{Game}
use Rattle.fx_plain_runs.specs.Runs.{IsBegun, written_of}
use Rattle.fx_plain_runs.specs.declared.manners.Manner.{Manner}
use Rattle.fx_plain_steps.specs.Told.{Told}
use Rattle.fx_plain_work.specs.Works.{Counted, IsWorked, no_sight}
use Rattle.fx_port.specs.Files.{Files}
use Rattle.fx_port.specs.Pieces.{grown}
use Rattle.fx_plain.specs.CommandLine.{Plan, Plays, PlaysDemo, ShowsUsage, usage_line}
use Rattle.fx_plain.specs.Demos.{demo_files, demo_run}

-- Of files that were loaded: building the scene counts nothing, and each line of the script what it may. The bytes are
-- those that the same lines tell.
pub record IsLoadedWork (manner : Manner) (loaded : Loaded) (bytes : List ℕ) (old new : Counted) (cost : ℕ)
    : Type 0 where
  pub first : Game
  pub begun : IsBegun manner.window loaded.tasks first
  pub tolds : List Told
  pub worked : IsWorked manner.form first no_sight loaded.lines tolds old new cost
  pub wrote : bytes ≡ written_of manner loaded.warnings tolds

-- of a run over files
pub record IsRunWork (run : Run) (manner : Manner) (files : Files) (bytes : List ℕ) (old new : Counted) (cost : ℕ)
    : Type 0 where
  pub loaded : Loaded
  pub elaborated : IsElaborated run files (Ok loaded)
  pub work : IsLoadedWork manner loaded bytes old new cost

-- where no run is asked for
pub record IsUsageWork (bytes : List ℕ) (cost : ℕ) : Type 0 where
  pub wrote : bytes ≡ usage_line
  pub none : cost ≡ 0

-- of what is played, which writes these bytes, and how many expressions it evaluates at most
abbrev pub IsWorkOf : Plan → Files → List ℕ → Counted → Counted → ℕ → Type 0
IsWorkOf (Plays run manner) files bytes old new = IsRunWork run manner files bytes old new
IsWorkOf (PlaysDemo number manner) files bytes old new = IsRunWork demo_run manner (demo_files number) bytes old new
IsWorkOf ShowsUsage files bytes old new = IsUsageWork bytes

-- what is played was written, and the counters rose by no more than it may ask for
pub record HasWorked (IsDone : List ℕ → ℕ → Type 0) (old new : Option (List ℕ)) (count last : ℕ) : Type 0 where
  pub bytes : List ℕ
  pub told : new ≡ grown old bytes
  pub within : IsDoneWithin (IsDone bytes) count last
