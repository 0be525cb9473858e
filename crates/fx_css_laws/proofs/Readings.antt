-- Each text of a sheet or a `style` is read, within its limits or past one.
-- Cited by the laws.
use Rattle.std.proofs.Common.{◌≡◌, ◌⊎◌, ℕ, List, [], ◌∷◌, refl, sym, ◌∙◌, subst, inl, inr}
use Rattle.fx_base.specs.declared.positions.Place.{Place}
use Rattle.fx_base.specs.declared.positions.Position.{Position}
use Rattle.fx_base.specs.Positions.{start}
use Rattle.fx_css_types.specs.declared.sheets.Rule.{Rule}
use Rattle.fx_css_marks.specs.declared.marks.Mark.{Mark}
use Rattle.fx_css_marks.specs.Scanning.{Plain, scanned}
use Rattle.fx_css_marks.proofs.Scans.{marks_scanned}
use Rattle.fx_css.specs.Numbered.{numbered_marks}
use Rattle.fx_css.specs.Pieces.{kept_in, warnings_in, past_declarations}
use Rattle.fx_css.specs.Sheets.{places_of, style_rule, IsFirst, IsPastLimit, IsSheetText, IsStyleText}
use Rattle.fx_css.proofs.OneReading.{one_style, one_text, some_text}
use Rattle.fx_css_laws.specs.Styles.{IsPastStyle, IsSheet, IsStyle}

pub some_style : (text : List ℕ) → (rules : List Rule) × (warnings : List Place) × (past : List Place) × IsStyleText text rules warnings past
some_style text =
    let ms : List Mark = scanned Plain start text in (
      style_rule (numbered_marks ms) ∷ [],
      places_of 0 ms (warnings_in (numbered_marks ms)),
      places_of 0 ms (past_declarations 0 (kept_in (numbered_marks ms))),
      record { marks = ms; marked = marks_scanned start text; are_rules = refl; are_warnings = refl; are_past = refl },
    )

-- the first of the places is at one position, and none is first of none

one_first : (past beyond : List Place) (p q : Position) → past ≡ beyond → IsFirst past p → IsFirst beyond q → p ≡ q
one_first [] beyond p q same a b = absurd a
one_first (x ∷ xs) beyond p q same a b = sym a ∙ subst (λ y. IsFirst y q) (sym same) b

no_first : (past : List Place) (p : Position) → past ≡ [] → IsFirst past p → ⊥
no_first past p none first = subst (λ y. IsFirst y p) none first

style_by : (text : List ℕ) (rules : List Rule) (warnings past : List Place) → IsStyleText text rules warnings past → IsStyle text ⊎ ((position : Position) × IsPastStyle text position)
style_by text rules warnings [] is = inl (rules, warnings, is)
style_by text rules warnings (p ∷ ps) is = inr (p.position, (rules, warnings, p ∷ ps, is, refl))

pub style_kept_or_past : (text : List ℕ) → IsStyle text ⊎ ((position : Position) × IsPastStyle text position)
style_kept_or_past text = let s = some_style text in style_by text s.0 s.1 s.2 s.3

pub style_apart : (text : List ℕ) (position : Position) → IsStyle text → IsPastStyle text position → ⊥
style_apart text position kept past =
    let same = one_style text past.0 kept.0 past.1 kept.1 past.2 [] past.3 kept.2 in no_first past.2 position same.2 past.4

pub style_place : (text : List ℕ) (p q : Position) → IsPastStyle text p → IsPastStyle text q → p ≡ q
style_place text p q a b =
    let same = one_style text a.0 b.0 a.1 b.1 a.2 b.2 a.3 b.3 in one_first a.2 b.2 p q same.2 a.4 b.4

sheet_by : (file : ℕ) (text : List ℕ) (rules : List Rule) (warnings past : List Place) → IsSheetText file text rules warnings past → IsSheet file text ⊎ ((position : Position) × IsPastLimit file text position)
sheet_by file text rules warnings [] is = inl (rules, warnings, is)
sheet_by file text rules warnings (p ∷ ps) is = inr (p.position, (rules, warnings, p ∷ ps, is, refl))

pub sheet_kept_or_past : (file : ℕ) (text : List ℕ) → IsSheet file text ⊎ ((position : Position) × IsPastLimit file text position)
sheet_kept_or_past file text = let s = some_text file text in sheet_by file text s.0 s.1 s.2 s.3

pub sheet_apart : (file : ℕ) (text : List ℕ) (position : Position) → IsSheet file text → IsPastLimit file text position → ⊥
sheet_apart file text position kept past =
    let same = one_text file text past.0 kept.0 past.1 kept.1 past.2 [] past.3 kept.2 in no_first past.2 position same.2 past.4

pub sheet_place : (file : ℕ) (text : List ℕ) (p q : Position) → IsPastLimit file text p → IsPastLimit file text q → p ≡ q
sheet_place file text p q a b =
    let same = one_text file text a.0 b.0 a.1 b.1 a.2 b.2 a.3 b.3 in one_first a.2 b.2 p q same.2 a.4 b.4
