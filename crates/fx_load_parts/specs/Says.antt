-- What the answer of a reading step says of the plain player's.
use Rattle.std.specs.Prelude.{◌≡◌, ⊤, Result, Ok, Err}
use Rattle.fx_load_parts.specs.Faults.{Fault}
use Rattle.fx_load_parts.specs.Views.{fault_of}
use Rattle.fx_load_parts.specs.declared.files.LoadError.{LoadError}
use Rattle.fx_load_parts.specs.declared.files.LoadError.TheVariants.{Fault as IsFault, Failed, Memory}
use Rattle.fx_port.specs.declared.files.FetchError.{FetchError}
use Rattle.fx_port.specs.declared.files.FetchError.TheVariants as fetch

-- the value, seen as the definition's, or exactly that fault; a failed fetch and want of memory say nothing
abbrev pub LoadSays : {A B : Type 0} → (A → B) → Result A LoadError → Result B Fault → Type 0
LoadSays seen (Ok x) answer = answer ≡ Ok (seen x)
LoadSays seen (Err (IsFault fault)) answer = answer ≡ Err (fault_of fault)
LoadSays seen (Err Failed) answer = ⊤
LoadSays seen (Err Memory) answer = ⊤

-- such is the value, seen as the definition's, or such is that fault
abbrev pub SaysSuch : {A B : Type 0} → (A → B) → (Result B Fault → Type 0) → Result A LoadError → Type 0
SaysSuch seen IsSuch (Ok x) = IsSuch (Ok (seen x))
SaysSuch seen IsSuch (Err (IsFault fault)) = IsSuch (Err (fault_of fault))
SaysSuch seen IsSuch (Err Failed) = ⊤
SaysSuch seen IsSuch (Err Memory) = ⊤

-- a fetch that gave nothing
abbrev pub load_error : FetchError → LoadError
load_error fetch.Failed = Failed
load_error fetch.Memory = Memory
