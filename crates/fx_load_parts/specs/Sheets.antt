-- The style sheets of a run.
use Rattle.std.specs.Prelude.{◌≡◌, ◌+◌, ◌⊎◌, ℕ, List, [], ◌∷◌, Result, Ok, Err, take}
use Rattle.std.specs.Str.{IsUtf8, IsValidUpTo, chars}
use Rattle.fx_base.specs.Positions.{after_all, start}
use Rattle.fx_base.specs.declared.positions.Position.{Position}
use Rattle.fx_css.specs.Sheets.{IsPastLimit, IsSheetText}
use Rattle.fx_css_types.specs.declared.sheets.Sheet.{Sheet}
use Rattle.fx_load_parts.specs.Faults.{Fault, fault_at}
use Rattle.fx_load_parts.specs.Files.{fetched}
use Rattle.fx_scene_flaws.specs.declared.flaws.FaultKind.TheVariants.{NotUtf8, Flawed}
use Rattle.fx_port.specs.Files.{Files}
use Rattle.fx_scene_flaws.specs.declared.flaws.Flaw.TheVariants.{Limit}

-- bytes that aren't UTF-8; the first bad one stands behind the characters before it
pub record IsNoText (name bytes : List ℕ) (fault : Fault) : Type 0 where
  pub count : ℕ
  pub bad : IsUtf8 bytes → ⊥
  pub valid : IsValidUpTo bytes count
  pub told : fault ≡ fault_at NotUtf8 name (after_all start (chars (take count bytes)))

-- the first part past a limit
pub record IsTooMuch (file : ℕ) (name bytes : List ℕ) (fault : Fault) : Type 0 where
  pub position : Position
  pub utf8 : IsUtf8 bytes
  pub past : IsPastLimit file bytes position
  pub told : fault ≡ fault_at (Flawed Limit) name position

-- what the bytes of a sheet are read as; its warnings have the number of its file
abbrev pub IsSheetOfText : ℕ → List ℕ → List ℕ → Result Sheet Fault → Type 0
IsSheetOfText file name bytes (Ok sheet) =
    IsUtf8 bytes × IsSheetText file bytes sheet.rules sheet.warnings []
IsSheetOfText file name bytes (Err fault) = IsNoText name bytes fault ⊎ IsTooMuch file name bytes fault

abbrev pub IsSheetOfBytes : ℕ → List ℕ → Result (List ℕ) Fault → Result Sheet Fault → Type 0
IsSheetOfBytes file name (Ok bytes) answer = IsSheetOfText file name bytes answer
IsSheetOfBytes file name (Err fault) answer = answer ≡ Err fault

-- what the sheet of this name is, the file of this number behind the script
abbrev pub IsSheetIn : Files → ℕ → List ℕ → Result Sheet Fault → Type 0
IsSheetIn files file name answer = IsSheetOfBytes file name (fetched files file name) answer

-- what the sheets of these names are, the first of this number, or the first fault
pub data AreSheetsFrom (files : Files) : ℕ → List (List ℕ) → Result (List Sheet) Fault → Type 0 where
  no_sheet : (file : ℕ) → AreSheetsFrom files file [] (Ok [])
  one_refused : (file : ℕ) (name : List ℕ) (names : List (List ℕ)) (fault : Fault)
      → IsSheetIn files file name (Err fault) → AreSheetsFrom files file (name ∷ names) (Err fault)
  one_sheet : (file : ℕ) (name : List ℕ) (names : List (List ℕ)) (sheet : Sheet) (sheets : List Sheet)
      → IsSheetIn files file name (Ok sheet) → AreSheetsFrom files (file + 1) names (Ok sheets)
      → AreSheetsFrom files file (name ∷ names) (Ok (sheet ∷ sheets))
  later_refused : (file : ℕ) (name : List ℕ) (names : List (List ℕ)) (sheet : Sheet) (fault : Fault)
      → IsSheetIn files file name (Ok sheet) → AreSheetsFrom files (file + 1) names (Err fault)
      → AreSheetsFrom files file (name ∷ names) (Err fault)

abbrev pub AreSheets : Files → List (List ℕ) → Result (List Sheet) Fault → Type 0
AreSheets files names answer = AreSheetsFrom files 0 names answer
