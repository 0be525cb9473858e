-- What a text is read as where it is an inline style.
use Rattle.std.proofs.Common.{◌≡◌, ◌||◌, ℕ, Bool, true, false, cond, List, [], ◌∷◌, ◌<◌, ◌≤◌, length, nat_lt, ltb, Option, Some, None, Result, Ok, Err, refl, sym, ◌∙◌, ap, arith}
use Rattle.std.proofs.lemmas.Bool.{ltb-true}
use Rattle.fx_base.specs.Positions.{start}
use Rattle.fx_base.specs.declared.positions.Place.{Place}
use Rattle.fx_base.specs.declared.positions.Position.{Position}
use Rattle.fx_css.specs.Numbered.{numbered_marks}
use Rattle.fx_css.specs.Pieces.{kept_in, past_declarations, warnings_in}
use Rattle.fx_css.specs.Sheets.{IsFirst, IsGiven, IsStyleText, places_of, style_rule}
use Rattle.fx_css.specs.declared.errors.SheetError.{SheetError}
use Rattle.fx_css.specs.declared.errors.SheetError.TheVariants.{Limit}
use Rattle.fx_css_marks.specs.Scanning.{Plain, scanned}
use Rattle.fx_css_marks.specs.declared.marks.Mark.{Mark}
use Rattle.fx_css_marks.proofs.Scans.{marks_scanned}
use Rattle.fx_css_types.specs.declared.sheets.Rule.{Rule}
use Rattle.fx_css_types.specs.declared.sheets.Sheet.{Sheet}
use Rattle.fx_stage_model.specs.Dressing.{is_past, is_past_limit, style_sheet}

abbrev marks_of : List ℕ → List Mark
marks_of text = scanned Plain start text

abbrev past_of : List ℕ → List ℕ
past_of text = past_declarations 0 (kept_in (numbered_marks (marks_of text)))

nothing_past : (marks : List Mark) (numbers : List ℕ) → places_of 0 marks numbers ≡ [] → is_past numbers ≡ false
nothing_past marks [] e = refl
nothing_past marks (n ∷ numbers) e = absurd (cc)

something_past : (marks : List Mark) (numbers : List ℕ) (position : Position) → IsFirst (places_of 0 marks numbers) position
    → is_past numbers ≡ true
something_past marks [] position first = absurd first
something_past marks (n ∷ numbers) position first = refl

abbrev IsRead : List ℕ → Result Sheet SheetError → Type 0
IsRead text result =
    (rules : List Rule) (warnings past : List Place) → IsStyleText text rules warnings past → IsGiven rules warnings past result

given : (text : List ℕ) (result : Result Sheet SheetError) → IsRead text result
    → IsGiven (style_rule (numbered_marks (marks_of text)) ∷ [])
    (places_of 0 (marks_of text) (warnings_in (numbered_marks (marks_of text)))) (places_of 0 (marks_of text) (past_of text)) result
given text result read =
    read (style_rule (numbered_marks (marks_of text)) ∷ [])
    (places_of 0 (marks_of text) (warnings_in (numbered_marks (marks_of text)))) (places_of 0 (marks_of text) (past_of text))
    (record {
      marks = marks_of text;
      marked = marks_scanned start text;
      are_rules = refl;
      are_warnings = refl;
      are_past = refl;
    })

abbrev read_of : List ℕ → Bool → Option Sheet
read_of text past = cond past None (Some (style_sheet text))

in_length : (text : List ℕ) → nat_lt 4194304 (length text) ≡ false → is_past_limit text ≡ is_past (past_of text)
in_length text short = ap (λ (b : Bool). b || is_past (past_of text)) short

pub style_ok : (text : List ℕ) (sheet : Sheet) → nat_lt 4194304 (length text) ≡ false → IsRead text (Ok sheet)
    → Some sheet ≡ read_of text (is_past_limit text)
style_ok text sheet short read =
    let g = given text (Ok sheet) read in
    ap Some (λ i. record { rules = g.0 i; warnings = g.1 i })
    ∙ sym (ap (read_of text) (in_length text short ∙ nothing_past (marks_of text) (past_of text) g.2))

pub style_past : (text : List ℕ) (position : Position) → nat_lt 4194304 (length text) ≡ false
    → IsRead text (Err (Limit position)) → None ≡ read_of text (is_past_limit text)
style_past text position short read =
    sym
    (ap (read_of text)
    (in_length text short
    ∙ something_past (marks_of text) (past_of text) position (given text (Err (Limit position)) read)))

pub short_text : (n : ℕ) → n ≤ 4194304 → nat_lt 4194304 n ≡ false
short_text n small = by_test (ltb 4194304 n) refl
  where
    by_test : (b : Bool) → ltb 4194304 n ≡ b → b ≡ false
    by_test true e = absurd (let more : 4194304 < n = ltb-true 4194304 n e in omega (arith, small, more))
    by_test false e = refl
