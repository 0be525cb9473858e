-- A text is read in one way, and in some.
-- Below the laws and the public answers.
use Rattle.std.proofs.Common.{◌≡◌, ℕ, List, [], ◌∷◌, map, refl, sym, ◌∙◌, ap, subst}
use Rattle.fx_base.specs.declared.positions.Place.{Place}
use Rattle.fx_css_types.specs.declared.sheets.Rule.{Rule}
use Rattle.fx_css_marks.specs.declared.marks.Mark.{Mark}
use Rattle.fx_base.specs.Positions.{start}
use Rattle.fx_css_marks.specs.Scanning.{Plain, scanned}
use Rattle.fx_css_marks.proofs.Scans.{marks_scanned, one_marking}
use Rattle.fx_css.specs.Numbered.{numbered_marks}
use Rattle.fx_css.specs.Rules.{Reads, past_rules}
use Rattle.fx_css.specs.Pieces.{kept_in, warnings_in, past_declarations}
use Rattle.fx_css.specs.Sheets.{places_of, IsSheetText, IsStyleText, style_rule}
use Rattle.fx_css.proofs.Turns.{Some_reading, some_reading, one_reading}

pub one_text : (file : ℕ) (text : List ℕ) (rules others : List Rule) (warnings more past beyond : List Place) → IsSheetText file text rules warnings past → IsSheetText file text others more beyond → (rules ≡ others) × (warnings ≡ more) × (past ≡ beyond)
one_text file text rules others warnings more past beyond a b =
    let e : a.marks ≡ b.marks = one_marking start text a.marks b.marks a.marked b.marked in
    let both = one_reading (numbered_marks b.marks) a.readings b.readings a.dropped b.dropped (subst (λ y. Reads (numbered_marks y) a.readings a.dropped) e a.reads) b.reads in (
      a.are_rules ∙ (ap (λ y. map (λ r. r.rule) y) both.0 ∙ sym b.are_rules),
      a.are_warnings ∙ (ap (λ y. places_of file y a.dropped) e ∙ (ap (λ y. places_of file b.marks y) both.1 ∙ sym b.are_warnings)),
      a.are_past ∙ (ap (λ y. places_of file y (past_rules 0 a.readings)) e ∙ (ap (λ y. places_of file b.marks (past_rules 0 y)) both.0 ∙ sym b.are_past)),
    )

pub some_text : (file : ℕ) (text : List ℕ) → (rules : List Rule) × (warnings : List Place) × (past : List Place) × IsSheetText file text rules warnings past
some_text file text =
    let ms : List Mark = scanned Plain start text in
    let r : Some_reading (numbered_marks ms) = some_reading (numbered_marks ms) in (
      map (λ x. x.rule) r.readings,
      places_of file ms r.warnings,
      places_of file ms (past_rules 0 r.readings),
      record {
        marks = ms;
        marked = marks_scanned start text;
        readings = r.readings;
        dropped = r.warnings;
        reads = r.reads;
        are_rules = refl;
        are_warnings = refl;
        are_past = refl;
      },
    )

-- the same of a `style`

pub one_style : (text : List ℕ) (rules others : List Rule) (warnings more past beyond : List Place) → IsStyleText text rules warnings past → IsStyleText text others more beyond → (rules ≡ others) × (warnings ≡ more) × (past ≡ beyond)
one_style text rules others warnings more past beyond a b =
    let e : a.marks ≡ b.marks = one_marking start text a.marks b.marks a.marked b.marked in (
      a.are_rules ∙ (ap (λ y. style_rule (numbered_marks y) ∷ []) e ∙ sym b.are_rules),
      a.are_warnings ∙ (ap (λ y. places_of 0 y (warnings_in (numbered_marks y))) e ∙ sym b.are_warnings),
      a.are_past ∙ (ap (λ y. places_of 0 y (past_declarations 0 (kept_in (numbered_marks y)))) e ∙ sym b.are_past),
    )
