-- What is answered of marks is answered of their text and of its bytes, and the other way round.
-- Below the answers on sheets and styles.
use Rattle.std.proofs.Common.{◌≡◌, ℕ, List, [], ◌∷◌, map, refl, sym, ◌∙◌, ap, subst, Result, Ok, Err, IfOk, IfErr}
use Rattle.std.specs.Result.{IsErrAnd}
use Rattle.std.specs.Str.{IsUtf8}
use Rattle.fx_base.specs.declared.positions.Place.{Place}
use Rattle.fx_base.specs.declared.positions.Position.{Position}
use Rattle.fx_css_types.specs.declared.sheets.Rule.{Rule}
use Rattle.fx_css_types.specs.declared.sheets.Sheet.{Sheet}
use Rattle.fx_css_marks.specs.declared.marks.Mark.{Mark}
use Rattle.fx_base.specs.Positions.{start}
use Rattle.fx_css_marks.specs.Marks.{Marked, position_of}
use Rattle.fx_css_marks.specs.Scanning.{Plain, scanned}
use Rattle.fx_css_marks.proofs.Scans.{marks_scanned}
use Rattle.fx_css.specs.declared.errors.SheetError.{SheetError}
use Rattle.fx_css.specs.declared.errors.SheetError.TheVariants.{NotUtf8, Limit, Memory}
use Rattle.fx_css.specs.declared.errors.Stop.{Stop}
use Rattle.fx_css.specs.declared.errors.Stop.TheVariants as stop
use Rattle.fx_css.specs.declared.parts.Numbered.{Numbered}
use Rattle.fx_css.specs.declared.rules.Draft.{Draft}
use Rattle.fx_css.specs.declared.sheets.Form.{Form}
use Rattle.fx_css.specs.declared.sheets.Form.TheVariants as form
use Rattle.fx_css.specs.Numbered.{numbered_marks}
use Rattle.fx_css.specs.Pieces.{kept_in, warnings_in, past_declarations}
use Rattle.fx_css.specs.Rules.{past_rules}
use Rattle.fx_css.specs.Sheets.{places_of, IsSheetText, IsStyleText, style_rule, IsFirst, IsPast, IsFirstNumber, AreRead, AreStyle, AreReadAs, IsTold, IsReadAs, IsSheetRead, HasFault, IsGiven, HasStyleFault, IsStyleRead}
use Rattle.fx_css.proofs.Turns.{Stops, Some_reading, some_reading}
use Rattle.fx_css.proofs.OneReading.{one_text, one_style}

pub stops_read : (ms : List Numbered) (r : Result Draft Stop) (e : Stop) → IsErrAnd r (λ y. y ≡ e) → Stops ms e → AreRead ms r
stops_read ms (Ok x) e h s = absurd h
stops_read ms (Err y) e h s = subst (λ z. AreRead ms (Err z)) (sym h) (s.readings, s.warnings, s.reads, s.past)

-- want of memory stops any reading
memory_stops : (ms : List Numbered) → Stops ms stop.Memory
memory_stops ms =
    let r : Some_reading ms = some_reading ms in
    record { readings = r.readings; warnings = r.warnings; reads = r.reads; past = tt }

pub memory_read : (f : Form) (ms : List Numbered) (r : Result Draft Stop) → IsErrAnd r (λ y. y ≡ stop.Memory) → AreReadAs f ms r
memory_read f ms (Ok x) h = absurd h
memory_read form.Sheet ms (Err y) h = stops_read ms (Err y) stop.Memory h (memory_stops ms)
memory_read form.Style ms (Err y) h = subst (λ z. AreStyle ms (Err z)) (sym h) tt

-- the place of the first number is the first place
first_place_is : (file : ℕ) (marks : List Mark) (past : List ℕ) (n : ℕ) (at : Position) → IsFirstNumber past n → position_of marks n ≡ at → IsFirst (places_of file marks past) at
first_place_is file marks [] n at h e = absurd h
first_place_is file marks (k ∷ past) n at h e = ap (position_of marks) h ∙ e

sheet_told : (file : ℕ) (text : List ℕ) (marks : List Mark) (r : Result Draft Stop) (answer : Result Sheet SheetError) → Marked start text marks → AreRead (numbered_marks marks) r → IsTold file marks r answer → IsSheetRead file text answer
sheet_told file text marks (Ok draft) (Ok sheet) m h t = record {
  marks = marks;
  marked = m;
  readings = h.0;
  dropped = draft.warnings.items;
  reads = h.1;
  are_rules = t.0 ∙ h.2;
  are_warnings = t.1;
  are_past = ap (places_of file marks) h.3;
}
sheet_told file text marks (Err (stop.Past n)) (Err (Limit at)) m h t = (
  map (λ r. r.rule) h.0,
  places_of file marks h.1,
  places_of file marks (past_rules 0 h.0),
  record { marks = marks; marked = m; readings = h.0; dropped = h.1; reads = h.2; are_rules = refl; are_warnings = refl; are_past = refl },
  first_place_is file marks (past_rules 0 h.0) n at h.3 t,
)
sheet_told file text marks (Err stop.Memory) (Err (Limit at)) m h t = absurd t
sheet_told file text marks (Ok draft) (Err (Limit at)) m h t = absurd t
sheet_told file text marks (Ok draft) (Err Memory) m h t = tt
sheet_told file text marks (Err e) (Err Memory) m h t = tt
sheet_told file text marks (Ok draft) (Err (NotUtf8 n)) m h t = t
sheet_told file text marks (Err (stop.Past k)) (Err (NotUtf8 n)) m h t = t
sheet_told file text marks (Err stop.Memory) (Err (NotUtf8 n)) m h t = t
sheet_told file text marks (Err (stop.Past n)) (Ok sheet) m h t = absurd t
sheet_told file text marks (Err stop.Memory) (Ok sheet) m h t = absurd t

-- whatever the marks are, they are those of the scan
abbrev pub AnswersAs : Form → ℕ → List ℕ → Result Sheet SheetError → Type 0
AnswersAs f file text answer = (marks : List Mark) → Marked start text marks → IsReadAs f file marks answer

sheet_read : (file : ℕ) (text : List ℕ) (answer : Result Sheet SheetError) → AnswersAs form.Sheet file text answer → IsSheetRead file text answer
sheet_read file text answer h =
    let marks : List Mark = scanned Plain start text in
    let m : Marked start text marks = marks_scanned start text in
    let read = h marks m in
    sheet_told file text marks read.0 answer m read.1 read.2

read_of : (file : ℕ) (text : List ℕ) (r : Result Sheet SheetError) → IsSheetRead file text r → IfOk r (λ sheet. IsSheetText file text sheet.rules sheet.warnings [])
read_of file text (Ok sheet) h = h
read_of file text (Err e) h = tt

pub read_by : (file : ℕ) (text : List ℕ) (r : Result Sheet SheetError) → AnswersAs form.Sheet file text r → IfOk r (λ sheet. IsSheetText file text sheet.rules sheet.warnings [])
read_by file text r h = read_of file text r (sheet_read file text r h)

fault_of : (file : ℕ) (text : List ℕ) (r : Result Sheet SheetError) → IsUtf8 text → IsSheetRead file text r → IfErr r (HasFault file text)
fault_of file text (Ok sheet) u h = tt
fault_of file text (Err (Limit at)) u h = (u, h)
fault_of file text (Err (NotUtf8 n)) u h = absurd h
fault_of file text (Err Memory) u h = tt

pub fault_by : (file : ℕ) (text : List ℕ) (r : Result Sheet SheetError) → IsUtf8 text → AnswersAs form.Sheet file text r → IfErr r (HasFault file text)
fault_by file text r u h = fault_of file text r u (sheet_read file text r h)

given : (file : ℕ) (text : List ℕ) (r : Result Sheet SheetError) (rules : List Rule) (warnings past : List Place) → IsSheetRead file text r → IsSheetText file text rules warnings past → IsGiven rules warnings past r
given file text (Ok sheet) rules warnings past h t =
    let o = one_text file text sheet.rules rules sheet.warnings warnings [] past h t in
    (o.0, o.1, sym o.2)
given file text (Err (Limit at)) rules warnings past h t =
    let o = one_text file text h.0 rules h.1 warnings h.2 past h.3 t in
    subst (λ y. IsFirst y at) o.2 h.4
given file text (Err (NotUtf8 n)) rules warnings past h t = h
given file text (Err Memory) rules warnings past h t = tt

pub exact_by : (file : ℕ) (text : List ℕ) (r : Result Sheet SheetError) → AnswersAs form.Sheet file text r → (rules : List Rule) (warnings past : List Place) → IsUtf8 text → IsSheetText file text rules warnings past → IsGiven rules warnings past r
exact_by file text r h rules warnings past u t = given file text r rules warnings past (sheet_read file text r h) t

-- the same of a `style`

style_fault : (text : List ℕ) (marks : List Mark) (e : SheetError) → Marked start text marks → IsPast (places_of 0 marks (past_declarations 0 (kept_in (numbered_marks marks)))) e → HasStyleFault text e
style_fault text marks e m h = (
  style_rule (numbered_marks marks) ∷ [],
  places_of 0 marks (warnings_in (numbered_marks marks)),
  places_of 0 marks (past_declarations 0 (kept_in (numbered_marks marks))),
  record { marks = marks; marked = m; are_rules = refl; are_warnings = refl; are_past = refl },
  h,
)

style_told : (text : List ℕ) (marks : List Mark) (r : Result Draft Stop) (answer : Result Sheet SheetError) → Marked start text marks → AreStyle (numbered_marks marks) r → IsTold 0 marks r answer → IsStyleRead text answer
style_told text marks (Ok draft) (Ok sheet) m h t = record { marks = marks; marked = m; are_rules = t.0 ∙ h.0; are_warnings = t.1 ∙ ap (places_of 0 marks) h.1; are_past = sym (ap (places_of 0 marks) h.2) }
style_told text marks (Err (stop.Past n)) (Err (Limit at)) m h t = style_fault text marks (Limit at) m (first_place_is 0 marks (past_declarations 0 (kept_in (numbered_marks marks))) n at h t)
style_told text marks (Err stop.Memory) (Err (Limit at)) m h t = absurd t
style_told text marks (Ok draft) (Err (Limit at)) m h t = absurd t
style_told text marks (Ok draft) (Err Memory) m h t = style_fault text marks Memory m tt
style_told text marks (Err e) (Err Memory) m h t = style_fault text marks Memory m tt
style_told text marks (Ok draft) (Err (NotUtf8 n)) m h t = absurd t
style_told text marks (Err (stop.Past k)) (Err (NotUtf8 n)) m h t = absurd t
style_told text marks (Err stop.Memory) (Err (NotUtf8 n)) m h t = absurd t
style_told text marks (Err (stop.Past n)) (Ok sheet) m h t = absurd t
style_told text marks (Err stop.Memory) (Ok sheet) m h t = absurd t

style_read : (text : List ℕ) (answer : Result Sheet SheetError) → AnswersAs form.Style 0 text answer → IsStyleRead text answer
style_read text answer h =
    let marks : List Mark = scanned Plain start text in
    let m : Marked start text marks = marks_scanned start text in
    let read = h marks m in
    style_told text marks read.0 answer m read.1 read.2

style_of : (text : List ℕ) (r : Result Sheet SheetError) → IsStyleRead text r → IfOk r (λ sheet. IsStyleText text sheet.rules sheet.warnings [])
style_of text (Ok sheet) h = h
style_of text (Err e) h = tt

pub style_by : (text : List ℕ) (r : Result Sheet SheetError) → AnswersAs form.Style 0 text r → IfOk r (λ sheet. IsStyleText text sheet.rules sheet.warnings [])
style_by text r h = style_of text r (style_read text r h)

style_fault_of : (text : List ℕ) (r : Result Sheet SheetError) → IsStyleRead text r → IfErr r (HasStyleFault text)
style_fault_of text (Ok sheet) h = tt
style_fault_of text (Err e) h = h

pub style_fault_by : (text : List ℕ) (r : Result Sheet SheetError) → AnswersAs form.Style 0 text r → IfErr r (HasStyleFault text)
style_fault_by text r h = style_fault_of text r (style_read text r h)

style_given_of : (text : List ℕ) (r : Result Sheet SheetError) → IsStyleRead text r → (rules : List Rule) (warnings past : List Place) → IsStyleText text rules warnings past → IsGiven rules warnings past r
style_given_of text (Ok sheet) h rules warnings past t =
    let o = one_style text sheet.rules rules sheet.warnings warnings [] past h t in
    (o.0, o.1, sym o.2)
style_given_of text (Err e) h rules warnings past t =
    let o = one_style text h.0 rules h.1 warnings h.2 past h.3 t in
    subst (λ y. IsPast y e) o.2 h.4

pub style_given : (text : List ℕ) (r : Result Sheet SheetError) → AnswersAs form.Style 0 text r → (rules : List Rule) (warnings past : List Place) → IsStyleText text rules warnings past → IsGiven rules warnings past r
style_given text r h = style_given_of text r (style_read text r h)
