-- The viewer as a program: all that it writes for its words over these files, and how it ends.
use Rattle.std.specs.Prelude.{◌≡◌, ℕ, List, [], ◌∷◌, ◌++◌, Option, Some, None, codes, nat_eq, if◌then◌else◌}
use Rattle.std.specs.Fmt.{decimal}
use Rattle.std.specs.List.{starts_with}
use Rattle.fx_text.specs.Characters.{space}
use Rattle.fx_delta.specs.Stream.{shown}
use Rattle.fx_port.specs.Files.{Files, Found, whole, absent, longer, found_in}
use Rattle.fx_port.specs.Pieces.{grown}
use Rattle.fxview.specs.declared.answers.ViewStatus.{ViewStatus}
use Rattle.fxview.specs.declared.answers.ViewStatus.TheVariants.{Done, Usage, Refused, ReadFault, WriteFault, NoMemory}

-- the name of the stream: the one word, which doesn't begin with `-`
abbrev pub accept : List (List ℕ) → Option (List ℕ)
accept (name ∷ []) = if starts_with nat_eq name (codes "-") then None else Some name
accept _ = None

unfoldable pub usage_line : List ℕ
usage_line = codes "usage: fxview STREAM\n"

-- `fault KIND FILE LINE 0`
unfoldable pub fault_line : List ℕ → List ℕ → ℕ → List ℕ
fault_line kind name line = codes "fault " ++ (kind ++ (space ∷ (name ++ (space ∷ (decimal line ++ codes " 0\n")))))

pub record Output : Type 0 where
  pub bytes : List ℕ
  pub status : ViewStatus

-- what is shown, and then the first bad line, if there is one
abbrev pub output_of_shown : List ℕ → List ℕ → Option ℕ → Output
output_of_shown name bytes None = record { bytes = bytes; status = Done }
output_of_shown name bytes (Some line) =
    record { bytes = bytes ++ fault_line (codes "stream") name line; status = Refused }

abbrev pub output_of_found : List ℕ → Found → Output
output_of_found name absent = record { bytes = fault_line (codes "missing") name 0; status = Refused }
output_of_found name longer = record { bytes = fault_line (codes "toolarge") name 0; status = Refused }
output_of_found name (whole stream) = output_of_shown name (shown stream).bytes (shown stream).bad

-- of the file with this name, which may have 268,435,456 bytes
abbrev pub output_of : Option (List ℕ) → Files → Output
output_of None files = record { bytes = usage_line; status = Usage }
output_of (Some name) files = output_of_found name (found_in files name 268435456)

-- what the program writes for these words over these files, and its status
abbrev pub output : List (List ℕ) → Files → Output
output words files = output_of (accept words) files

-- the files that a run is over: those that the shelf tells, and any where nothing is fetched
abbrev pub IsOver : Option Files → Option (List ℕ) → Files → Type 0
IsOver told None files = Unit {0}
IsOver told (Some name) files = told ≡ Some files

-- the run came to its end
abbrev pub IsAnswer : ViewStatus → Type 0
IsAnswer Done = Unit {0}
IsAnswer Usage = Unit {0}
IsAnswer Refused = Unit {0}
IsAnswer ReadFault = ⊥
IsAnswer WriteFault = ⊥
IsAnswer NoMemory = ⊥

-- what was written grew by exactly these bytes, and the answer is this status
pub record Answers (old new : Option (List ℕ)) (answer : ViewStatus) (plain : Output) : Type 0 where
  pub bytes : new ≡ grown old plain.bytes
  pub status : answer ≡ plain.status
