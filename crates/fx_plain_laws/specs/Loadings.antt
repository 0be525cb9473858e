-- Files are loaded in one way.
use Rattle.std.specs.Prelude.{◌≡◌, Result}
use Rattle.fx_load.specs.Loading.{IsElaborated, Loaded}
use Rattle.fx_load_parts.specs.Faults.{Fault}
use Rattle.fx_load_parts.specs.Files.{Run}
use Rattle.fx_port.specs.Files.{Files}

-- the files of a run mean one thing, or have one first fault
abbrev pub OneLoading : Type 0
OneLoading = (run : Run) (files : Files) (answer other : Result Loaded Fault) → IsElaborated run files answer
    → IsElaborated run files other → answer ≡ other
