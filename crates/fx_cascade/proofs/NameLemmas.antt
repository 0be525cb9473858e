-- Names of rows: two names of one row are one name.
use Rattle.std.proofs.Common.{◌≡◌, ◌≢◌, ℕ, ◌<◌, Bool, true, false, List, Option, Some, None, get_or, length, refl, sym, ap, ◌∙◌, subst, inl, inr, [], ◌∷◌}
use Rattle.std.specs.Str.{bytes_eq}
use Rattle.std.specs.Prelude.{slice_get}
use Rattle.std.specs.Option.{option_map, option_map_or}
use Rattle.fx_cascade.specs.Sources.{row_name}
use Rattle.std.specs.List.{position}
use Rattle.std.proofs.lemmas.Bool.{cases_Bool}
use Rattle.std.proofs.lemmas.List.Quantifiers.{position-Some}
use Rattle.std.proofs.lemmas.Option.{slice_get-get_or}
use Rattle.std.proofs.lemmas.Slice.Eq.{bytes_eq-Decides}
use Rattle.fx_look.specs.Styles.{StyleRow, styles}
use Rattle.fx_look.specs.StyleRows.{style_named}
use Rattle.fx_look.specs.declared.styles.StyleForm.TheVariants as form
use Rattle.fx_look.specs.declared.styles.StyleName.{StyleName}
use Rattle.fx_look.specs.declared.styles.TheConstants.{STYLE_COUNT}
use Rattle.fx_css_types.specs.Limits.{row_of}
use Rattle.fx_look.proofs.StyleLemmas.{style_found, styles_counted}
use Rattle.fx_look.proofs.TableLemmas.{position_small}

pub same_name : (a b : List ℕ) → bytes_eq a b ≡ true → a ≡ b
same_name a b e = (bytes_eq-Decides a b).0 e

pub equal_name : (a : List ℕ) → bytes_eq a a ≡ true
equal_name a = (bytes_eq-Decides a a).1 refl

no_row : StyleRow
no_row = record { name = []; form = form.Size; property = None }

pub row_small : (name : List ℕ) (row : ℕ) → style_named name ≡ Some row → row < STYLE_COUNT
row_small name row e =
    subst (λ (n : ℕ). row < n) styles_counted
    (position_small (λ (r : StyleRow). bytes_eq r.name name) styles no_row row e)

name_at : (name : List ℕ) (row : ℕ) → style_named name ≡ Some row → (get_or styles row no_row).name ≡ name
name_at name row e =
    same_name (get_or styles row no_row).name name
    (position-Some (λ (r : StyleRow). bytes_eq r.name name) styles row no_row e).1

-- two names of one row
pub one_row : (a b : List ℕ) (row : ℕ) → style_named a ≡ Some row → style_named b ≡ Some row → a ≡ b
one_row a b row e f = sym (name_at a row e) ∙ name_at b row f

-- names that are looked up otherwise differ
pub apart : (a b : List ℕ) → style_named a ≢ style_named b → bytes_eq a b ≡ false
apart a b differ = elim (cases_Bool (bytes_eq a b)) [
  | inl same ↦ absurd (differ (ap style_named (same_name a b same)))
  | inr other ↦ other
]

row_found_named : (o : Option StyleRow) (row : ℕ) → slice_get styles row ≡ o → row < STYLE_COUNT
    → style_named (option_map_or (λ (r : StyleRow). r.name) o []) ≡ Some row
row_found_named None row e within = absurd (
    let g = slice_get-get_or styles row no_row (subst (λ (n : ℕ). row < n) (sym styles_counted) within) in
    let f : None ≡ Some (get_or styles row no_row) = sym e ∙ g in cc)
row_found_named (Some r) row e within = style_found row r e

-- each row is found by its name
pub row_named : (row : ℕ) → row < STYLE_COUNT → style_named (row_name row) ≡ Some row
row_named row within = row_found_named (slice_get styles row) row refl within

place_of_name : (o : Option ℕ) (row : StyleName) → option_map (λ (place : ℕ). record { 0 = place }) o ≡ Some row
    → o ≡ Some row.0
place_of_name None row e = absurd (cc)
place_of_name (Some place) row e = ap (option_map (λ (r : StyleName). r.0)) e

-- the place of a name's row
pub row_place : (name : List ℕ) (row : StyleName) → row_of name ≡ Some row → style_named name ≡ Some row.0
row_place name row e = place_of_name (style_named name) row e
