-- What is read of a sheet's text and of a `style`: the public contracts cite these.
use Rattle.std.specs.Prelude.{◌≡◌, ℕ, List, [], ◌∷◌, map, Result, Ok, Err}
use Rattle.std.specs.Str.{IsUtf8, IsValidUpTo}
use Rattle.fx_base.specs.declared.positions.Place.{Place}
use Rattle.fx_base.specs.declared.positions.Position.{Position}
use Rattle.fx_css_types.specs.declared.sheets.Rule.{Rule}
use Rattle.fx_css_types.specs.declared.sheets.Sheet.{Sheet}
use Rattle.fx_css_marks.specs.declared.marks.Mark.{Mark}
use Rattle.fx_base.specs.Positions.{start}
use Rattle.fx_css_marks.specs.Marks.{Marked, position_of, place_of}
use Rattle.fx_css.specs.declared.errors.SheetError.{SheetError}
use Rattle.fx_css.specs.declared.errors.SheetError.TheVariants.{NotUtf8, Limit, Memory}
use Rattle.fx_css.specs.declared.errors.Stop.{Stop}
use Rattle.fx_css.specs.declared.errors.Stop.TheVariants as stop
use Rattle.fx_css.specs.declared.rules.Draft.{Draft}
use Rattle.fx_css.specs.declared.sheets.Form.{Form}
use Rattle.fx_css.specs.declared.sheets.Form.TheVariants as form
use Rattle.fx_css.specs.declared.parts.Numbered.{Numbered}
use Rattle.fx_css.specs.Numbered.{numbered_marks}
use Rattle.fx_css.specs.Pieces.{kept_in, warnings_in, past_declarations}
use Rattle.fx_css.specs.Rules.{Reading, past_rules, Reads}

-- the places of marks, told by their numbers
abbrev pub places_of : ℕ → List Mark → List ℕ → List Place
places_of file ms numbers = map (place_of file ms) numbers

-- the rules of a text of this file, the places of what is dropped, and the places, in their order, of what is past a
-- limit
pub record IsSheetText (file : ℕ) (text : List ℕ) (rules : List Rule) (warnings past : List Place) : Type 0 where
  pub marks : List Mark
  pub marked : Marked start text marks
  pub readings : List Reading
  pub dropped : List ℕ
  pub reads : Reads (numbered_marks marks) readings dropped
  pub are_rules : rules ≡ map (λ r. r.rule) readings
  pub are_warnings : warnings ≡ places_of file marks dropped
  pub are_past : past ≡ places_of file marks (past_rules 0 readings)

-- the one rule of a `style`, without selector
abbrev pub style_rule : List Numbered → Rule
style_rule ms = record { selectors = []; declarations = map (λ k. k.declaration) (kept_in ms) }

-- the same of a `style`
pub record IsStyleText (text : List ℕ) (rules : List Rule) (warnings past : List Place) : Type 0 where
  pub marks : List Mark
  pub marked : Marked start text marks
  pub are_rules : rules ≡ style_rule (numbered_marks marks) ∷ []
  pub are_warnings : warnings ≡ places_of 0 marks (warnings_in (numbered_marks marks))
  pub are_past : past ≡ places_of 0 marks (past_declarations 0 (kept_in (numbered_marks marks)))

-- the first of the places is at this position
abbrev pub IsFirst : List Place → Position → Type 0
IsFirst [] position = ⊥
IsFirst (p ∷ ps) position = p.position ≡ position

-- why a text is no sheet: the first of these places
abbrev pub IsPast : List Place → SheetError → Type 0
IsPast past (Limit position) = IsFirst past position
IsPast past (NotUtf8 n) = ⊥
IsPast past Memory = Unit {0}

-- this number is the first
abbrev pub IsFirstNumber : List ℕ → ℕ → Type 0
IsFirstNumber [] n = ⊥
IsFirstNumber (k ∷ ks) n = k ≡ n

-- why reading stops, at the first of these numbers
abbrev pub IsStop : List ℕ → Stop → Type 0
IsStop past (stop.Past n) = IsFirstNumber past n
IsStop past stop.Memory = Unit {0}

-- the rules that marks are read as with the numbers of what is dropped, or the first number past a limit
abbrev pub AreRead : List Numbered → Result Draft Stop → Type 0
AreRead ms (Ok draft) = (readings : List Reading) × Reads ms readings draft.warnings.items
    × (draft.rules.items ≡ map (λ r. r.rule) readings) × ([] ≡ past_rules 0 readings)
AreRead ms (Err e) =
    (readings : List Reading) × (warnings : List ℕ) × Reads ms readings warnings × IsStop (past_rules 0 readings) e

-- the same of a `style`
abbrev pub AreStyle : List Numbered → Result Draft Stop → Type 0
AreStyle ms (Ok draft) = (draft.rules.items ≡ style_rule ms ∷ []) × (draft.warnings.items ≡ warnings_in ms)
    × (past_declarations 0 (kept_in ms) ≡ [])
AreStyle ms (Err e) = IsStop (past_declarations 0 (kept_in ms)) e

abbrev pub AreReadAs : Form → List Numbered → Result Draft Stop → Type 0
AreReadAs form.Sheet ms r = AreRead ms r
AreReadAs form.Style ms r = AreStyle ms r

-- why reading stopped, with a position for a number
abbrev pub IsToldStop : List Mark → Stop → SheetError → Type 0
IsToldStop ms (stop.Past n) (Limit position) = position_of ms n ≡ position
IsToldStop ms stop.Memory Memory = Unit {0}
IsToldStop ms e answer = ⊥

-- what was read, with places for numbers
abbrev pub IsTold : ℕ → List Mark → Result Draft Stop → Result Sheet SheetError → Type 0
IsTold file ms (Ok draft) (Ok sheet) =
    (sheet.rules ≡ draft.rules.items) × (sheet.warnings ≡ places_of file ms draft.warnings.items)
IsTold file ms (Ok draft) (Err Memory) = Unit {0}
IsTold file ms (Err e) (Err answer) = IsToldStop ms e answer
IsTold file ms r answer = ⊥

-- what is answered of a text with these marks
abbrev pub IsReadAs : Form → ℕ → List Mark → Result Sheet SheetError → Type 0
IsReadAs f file ms answer =
    (read : Result Draft Stop) × AreReadAs f (numbered_marks ms) read × IsTold file ms read answer

-- something of a text is past a limit, first what begins at this position
abbrev pub IsPastLimit : ℕ → List ℕ → Position → Type 0
IsPastLimit file text position = (rules : List Rule) × (warnings : List Place) × (past : List Place)
    × IsSheetText file text rules warnings past × IsFirst past position

abbrev pub IsSheetRead : ℕ → List ℕ → Result Sheet SheetError → Type 0
IsSheetRead file text (Ok sheet) = IsSheetText file text sheet.rules sheet.warnings []
IsSheetRead file text (Err (Limit position)) = IsPastLimit file text position
IsSheetRead file text (Err (NotUtf8 n)) = ⊥
IsSheetRead file text (Err Memory) = Unit {0}

-- why bytes of this file are no sheet that can be held
abbrev pub HasFault : ℕ → List ℕ → SheetError → Type 0
HasFault file bytes (NotUtf8 n) = (IsUtf8 bytes → ⊥) × IsValidUpTo bytes n
HasFault file bytes (Limit position) = IsUtf8 bytes × IsPastLimit file bytes position
HasFault file bytes Memory = Unit {0}

-- what is read of a text is answered, unless there is no memory
abbrev pub IsGiven : List Rule → List Place → List Place → Result Sheet SheetError → Type 0
IsGiven rules warnings past (Ok sheet) = (sheet.rules ≡ rules) × (sheet.warnings ≡ warnings) × (past ≡ [])
IsGiven rules warnings past (Err e) = IsPast past e

-- bad bytes are refused as such, unless there is no memory
abbrev pub IsRefused : Result Sheet SheetError → Type 0
IsRefused (Err (NotUtf8 n)) = Unit {0}
IsRefused (Err Memory) = Unit {0}
IsRefused r = ⊥

abbrev pub HasStyleFault : List ℕ → SheetError → Type 0
HasStyleFault text e = (rules : List Rule) × (warnings : List Place) × (past : List Place)
    × IsStyleText text rules warnings past × IsPast past e

abbrev pub IsStyleRead : List ℕ → Result Sheet SheetError → Type 0
IsStyleRead text (Ok sheet) = IsStyleText text sheet.rules sheet.warnings []
IsStyleRead text (Err e) = HasStyleFault text e
