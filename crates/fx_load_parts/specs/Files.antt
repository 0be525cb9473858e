-- The files of a run, and their bytes.
use Rattle.std.specs.Prelude.{ℕ, List, [], Option, Some, None, Result, Ok, Err, nat_lt, slice_get, if◌then◌else◌}
use Rattle.fx_load_parts.specs.Faults.{Fault, whole_fault}
use Rattle.fx_port.specs.Files.{Files, Found, found_in, whole, absent, longer}
use Rattle.fx_scene_flaws.specs.declared.flaws.FaultKind.TheVariants.{Missing, TooLarge, Flawed}
use Rattle.fx_scene_flaws.specs.declared.flaws.Flaw.TheVariants.{Limit}

-- a run over files, by their names
pub record Run : Type 0 where
  pub scene : List ℕ
  pub script : List ℕ
  pub sheets : List (List ℕ)

-- the most bytes of a file
abbrev pub file_limit : ℕ
file_limit = 4194304

abbrev pub bytes_found : List ℕ → Found → Result (List ℕ) Fault
bytes_found name (whole bytes) = Ok bytes
bytes_found name absent = Err (whole_fault Missing name)
bytes_found name longer = Err (whole_fault TooLarge name)

-- the bytes of a file
abbrev pub bytes_of : Files → List ℕ → Result (List ℕ) Fault
bytes_of files name = bytes_found name (found_in files name file_limit)

-- at most 64 files are fetched, of which the script is the first
abbrev pub fetched : Files → ℕ → List ℕ → Result (List ℕ) Fault
fetched files place name =
    if nat_lt place 63 then bytes_of files name else Err (whole_fault (Flawed Limit) name)

abbrev pub name_if : Option (List ℕ) → List ℕ
name_if None = []
name_if (Some name) = name

-- the name of the file of this number among those that were fetched
unfoldable pub name_in : List (List ℕ) → ℕ → List ℕ
name_in files file = name_if (slice_get files file)
