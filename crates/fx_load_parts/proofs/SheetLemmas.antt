-- Sheets that are read one after another.
use Rattle.std.proofs.Common.{◌≡◌, ◌<◌, ◌≤◌, ◌+◌, ℕ, List, [], ◌∷◌, ◌++◌, Result, Ok, Err, drop, get_or, length, sym, ◌∙◌, ap, subst, append_assoc, append-nil, IsErrAnd, Vec}
use Rattle.std.specs.Global.{Global}
use Rattle.std.proofs.lemmas.List.{at_drop_all, drop_more}
use Rattle.fx_css_types.specs.declared.sheets.Sheet.{Sheet}
use Rattle.fx_load_parts.specs.Faults.{Fault}
use Rattle.fx_load_parts.specs.Sheets.{AreSheets, AreSheetsFrom, IsSheetIn, later_refused, no_sheet, one_refused, one_sheet}
use Rattle.fx_load_parts.specs.Says.{SaysSuch}
use Rattle.fx_load_parts.specs.Views.{fault_of}
use Rattle.fx_load_parts.specs.declared.files.LoadError.{LoadError}
use Rattle.fx_load_parts.specs.declared.files.LoadError.TheVariants as load
use Rattle.fx_port.specs.Files.{Files}

-- sheets in front of those that are still read
abbrev pub behind : List Sheet → Result (List Sheet) Fault → Result (List Sheet) Fault
behind found (Ok sheets) = Ok (found ++ sheets)
behind found (Err fault) = Err fault

-- what the names that are left give completes what is there
abbrev pub Completes : Files → List (List ℕ) → ℕ → List Sheet → Type 0
Completes files names file found =
    (answer : Result (List Sheet) Fault) → AreSheetsFrom files file (drop file names) answer
    → AreSheetsFrom files 0 names (behind found answer)

cut : (names : List (List ℕ)) (file : ℕ) (name : List ℕ) → file < length names → name ≡ get_or names file name
    → drop file names ≡ name ∷ drop (file + 1) names
cut names file name h is =
    drop_more names file name h ∙ ap (λ (n : List ℕ). n ∷ drop (file + 1) names) (sym is)

pub begins : (files : Files) (names : List (List ℕ)) → Completes files names 0 []
begins files names (Ok sheets) more = more
begins files names (Err fault) more = more

pub goes_on : (files : Files) (names : List (List ℕ)) (file : ℕ) (name : List ℕ) (found now : List Sheet) (sheet : Sheet)
    → file < length names → name ≡ get_or names file name → IsSheetIn files file name (Ok sheet)
    → now ≡ found ++ (sheet ∷ []) → Completes files names file found → Completes files names (file + 1) now
goes_on files names file name found now sheet h is read pushed completes (Ok sheets) more =
    subst (λ (all : List Sheet). AreSheetsFrom files 0 names (Ok all))
    (sym (append_assoc found (sheet ∷ []) sheets) ∙ ap (λ (l : List Sheet). l ++ sheets) (sym pushed))
    (completes (Ok (sheet ∷ sheets))
    (subst (λ (left : List (List ℕ)). AreSheetsFrom files file left (Ok (sheet ∷ sheets))) (sym (cut names file name h is))
    (one_sheet file name (drop (file + 1) names) sheet sheets read more)))
goes_on files names file name found now sheet h is read pushed completes (Err fault) more =
    completes (Err fault)
    (subst (λ (left : List (List ℕ)). AreSheetsFrom files file left (Err fault)) (sym (cut names file name h is))
    (later_refused file name (drop (file + 1) names) sheet fault read more))

pub stops : (files : Files) (names : List (List ℕ)) (file : ℕ) (name : List ℕ) (found : List Sheet) (fault : Fault)
    → file < length names → name ≡ get_or names file name → IsSheetIn files file name (Err fault)
    → Completes files names file found → AreSheetsFrom files 0 names (Err fault)
stops files names file name found fault h is refused completes =
    completes (Err fault)
    (subst (λ (left : List (List ℕ)). AreSheetsFrom files file left (Err fault)) (sym (cut names file name h is))
    (one_refused file name (drop (file + 1) names) fault refused))

pub ends : (files : Files) (names : List (List ℕ)) (file : ℕ) (found : List Sheet) → length names ≤ file
    → Completes files names file found → AreSheetsFrom files 0 names (Ok found)
ends files names file found h completes =
    subst (λ (all : List Sheet). AreSheetsFrom files 0 names (Ok all)) (append-nil found)
    (completes (Ok [])
    (subst (λ (left : List (List ℕ)). AreSheetsFrom files file left (Ok []))
    (sym (at_drop_all (λ (l : List (List ℕ)). l) names file h)) (no_sheet file)))

-- a fault is told on
pub told_on : (files : Files) (names : List (List ℕ)) (file : ℕ) (name text : List ℕ) (found : List Sheet) (error : LoadError)
    (result : Result (Vec Sheet Global) LoadError) → file < length names → name ≡ get_or names file name
    → text ≡ name → SaysSuch {A = Sheet} (λ sheet. sheet) (IsSheetIn files file text) (Err error)
    → Completes files names file found → IsErrAnd result (λ e. e ≡ error) → SaysSuch (λ sheets. sheets.items) (AreSheets files names) result
told_on files names file name text found error (Ok sheets) h is same says completes at = absurd at
told_on files names file name text found error (Err other) h is same says completes at =
    let IsTold : LoadError → Type 0 =
    λ e. SaysSuch {A = Vec Sheet Global} (λ sheets. sheets.items) (AreSheets files names) (Err e) in
    subst IsTold (sym at)
    (by_error error
    (subst (λ (n : List ℕ). SaysSuch {A = Sheet} (λ sheet. sheet) (IsSheetIn files file n) (Err error)) same says))
  where
    by_error : (e : LoadError) → SaysSuch {A = Sheet} (λ sheet. sheet) (IsSheetIn files file name) (Err e)
        → SaysSuch {A = Vec Sheet Global} (λ sheets. sheets.items) (AreSheets files names) (Err e)
    by_error (load.Fault fault) says = stops files names file name found (fault_of fault) h is says completes
    by_error load.Failed says = says
    by_error load.Memory says = says
