-- A shelf in memory as its callers see it.
use Rattle.std.specs.Prelude.{ℕ, List, String, Vec, map}
use Rattle.std.specs.Global.{Global}
use Rattle.std.specs.String.{string_bytes}

-- names with their bytes, the numbers of the calls that fail, and the counts of calls and of faults
pub record ShelfState : Type 0 where
  pub entries : List (List ℕ × List ℕ)
  pub failing : List ℕ
  pub calls : ℕ
  pub faults : ℕ

-- each name with its bytes, in the order of the files
abbrev pub entries_of : List (String Global × Vec ℕ Global) → List (List ℕ × List ℕ)
entries_of files = map (λ (file : String Global × Vec ℕ Global). (string_bytes file.0, file.1.items)) files
