-- The position that is told of a text is that of what is first past a limit.
-- Cited by the law of positions.
use Rattle.std.proofs.Common.{◌≡◌, ℕ, List, [], ◌∷◌, refl, sym, subst, arith}
use Rattle.fx_base.specs.declared.positions.Position.{Position}
use Rattle.fx_css_marks.specs.declared.marks.Mark.{Mark}
use Rattle.fx_css_marks.specs.Marks.{position_of}
use Rattle.fx_css.specs.Numbered.{numbered_marks}
use Rattle.fx_css.specs.Pieces.{kept_in, past_declarations}
use Rattle.fx_css.specs.Rules.{past_rules}
use Rattle.fx_css.specs.Sheets.{places_of, IsFirst, IsFirstNumber, IsPastLimit}
use Rattle.fx_css_laws.specs.Places.{IsSheetPlace, IsStylePlace}
use Rattle.fx_css_laws.specs.Styles.{IsPastStyle}
use Rattle.fx_css_laws.proofs.Counts.{first_declaration, first_rule}

first_number : (file : ℕ) (marks : List Mark) (numbers : List ℕ) (position : Position) → IsFirst (places_of file marks numbers) position → (n : ℕ) × IsFirstNumber numbers n × (position ≡ position_of marks n)
first_number file marks [] position first = absurd first
first_number file marks (n ∷ ns) position first = (n, refl, sym first)

pub style_told : (text : List ℕ) (position : Position) → IsPastStyle text position → IsStylePlace text position
style_told text position p =
    let s = p.3 in
    let f = first_number 0 s.marks (past_declarations 0 (kept_in (numbered_marks s.marks))) position (subst (λ y. IsFirst y position) s.are_past p.4) in
    record {
      marks = s.marks;
      marked = s.marked;
      number = f.0;
      told = first_declaration 0 256 (kept_in (numbered_marks s.marks)) f.0 (omega arith) f.1;
      place = f.2;
    }

pub sheet_told : (file : ℕ) (text : List ℕ) (position : Position) → IsPastLimit file text position → IsSheetPlace text position
sheet_told file text position p =
    let s = p.3 in
    let f = first_number file s.marks (past_rules 0 s.readings) position (subst (λ y. IsFirst y position) s.are_past p.4) in
    record {
      marks = s.marks;
      marked = s.marked;
      readings = s.readings;
      dropped = s.dropped;
      reads = s.reads;
      number = f.0;
      told = first_rule 0 4096 s.readings f.0 (omega arith) f.1;
      place = f.2;
    }
