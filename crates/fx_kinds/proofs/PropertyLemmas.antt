-- The lists of properties are those that the table gives each class.
use Rattle.std.proofs.Common.{◌≡◌, ℕ, ◌+◌, ◌<◌, Bool, true, false, slice_index_or, ◌&&◌, List, [], ◌∷◌, length, map, Option, Some, None, refl, sym, ap, ◌∙◌, subst, arith}
use Rattle.std.specs.Prelude.{slice_get, is_some}
use Rattle.std.specs.List.{position, list_all, list_any, Contains}
use Rattle.std.specs.Option.{option_map, option_map_or}
use Rattle.std.specs.Str.{bytes_eq}
use Rattle.std.proofs.lemmas.Bool.{and_parts}
use Rattle.std.proofs.lemmas.List.{length-map}
use Rattle.std.proofs.lemmas.Option.{slice_get-map, slice_get-get_or}
use Rattle.std.proofs.lemmas.Slice.Eq.{bytes_eq-Decides}
use Rattle.fx_base.specs.declared.kinds.Family.{Family}
use Rattle.fx_base.specs.declared.kinds.Family.TheVariants as family
use Rattle.fx_base.specs.declared.kinds.Kind.{Kind}
use Rattle.fx_base.specs.declared.kinds.Kind.TheVariants as kind
use Rattle.fx_base.specs.declared.values.Value.{Value}
use Rattle.fx_look.specs.Styles.{StyleRow, styles, kind_of_form}
use Rattle.fx_look.specs.StyleRows.{style_at}
use Rattle.fx_look.proofs.TableLemmas.{row_passes, is_place, place_is, all_at, passes_at, all_first, first_of_name, any_sound}
use Rattle.fx_kinds.specs.declared.classes.Class.{Class}
use Rattle.fx_kinds.specs.declared.classes.Class.TheVariants as class
use Rattle.fx_kinds.specs.declared.property_table.Property.{Property}
use Rattle.fx_kinds.specs.Listing.{listed_property, listed_with, row_with, initial_value}
use Rattle.fx_kinds.specs.Properties.{PropertyRow, ListedProperty, rows, rows_of, listed, is_styling, styled_by, properties_of, initial_of}
use Rattle.fx_kinds.proofs.ClassLemmas.{by_class}

mapped_twice : {A B C : Type 0} (f : B → C) (g : A → B) (xs : List A) → map f (map g xs) ≡ map (λ x. f (g x)) xs
mapped_twice f g [] = refl
mapped_twice f g (x ∷ xs) = ap (λ v. f (g x) ∷ v) (mapped_twice f g xs)

pub list_is : (c : Class) (list : List Property) → map (listed_with c) list ≡ map (row_with c) (rows_of c) → map listed_property list ≡ properties_of c
list_is c list e =
    sym (mapped_twice (λ (p : ListedProperty × Value). p.0) (listed_with c) list) ∙ ap (map (λ (p : ListedProperty × Value). p.0)) e
    ∙ mapped_twice (λ (p : ListedProperty × Value). p.0) (row_with c) (rows_of c)

pub list_length : (c : Class) (list : List Property) → map (listed_with c) list ≡ map (row_with c) (rows_of c) → length list ≡ length (properties_of c)
list_length c list e = sym (length-map list (listed_with c)) ∙ ap length e ∙ length-map (rows_of c) (row_with c) ∙ sym (length-map (rows_of c) listed)

pub initial_is : (c : Class) (list : List Property) (place : ℕ) (p : Property) → map (listed_with c) list ≡ map (row_with c) (rows_of c) → slice_get list place ≡ Some p → initial_of c place ≡ Some (initial_value c p.initial)
initial_is c list place p e f =
    let here : option_map (row_with c) (slice_get (rows_of c) place) ≡ Some (listed_with c p) =
    sym (slice_get-map (row_with c) (rows_of c) place) ∙ sym (ap (λ xs. slice_get xs place) e) ∙ slice_get-map (listed_with c) list place ∙ ap (option_map (listed_with c)) f in
    by_row (slice_get (rows_of c) place) here
  where
    by_row : (o : Option PropertyRow) → option_map (row_with c) o ≡ Some (listed_with c p) → option_map (λ (row : PropertyRow). row.initial c) o ≡ Some (initial_value c p.initial)
    by_row None g = absurd (cc)
    by_row (Some row) g = let same : row_with c row ≡ listed_with c p = cc in ap (λ (q : ListedProperty × Value). Some q.1) same

pub initial_found : (c : Class) (list : List Property) (place : ℕ) (d : Property) (v : Value) → map (listed_with c) list ≡ map (row_with c) (rows_of c) → place < length (properties_of c) → v ≡ initial_value c (slice_index_or list place d).initial → initial_of c place ≡ Some v
initial_found c list place d v e within f =
    let long = list_length c list e in
    let inside : place < length list = omega (arith, long) in
    initial_is c list place (slice_index_or list place d) e (slice_get-get_or list place d inside) ∙ ap (λ v. Some v) (sym f)

-- names of a class are distinct

abbrev names_of : Class → List (List ℕ)
names_of c = map (λ (p : ListedProperty). p.name) (properties_of c)

names_first : (c : Class) → all_first (names_of c) ≡ true
unfolding rows_of rows
names_first c = by_class (λ k. all_first (names_of k)) refl c

name_place : (c : Class) (i : ℕ) (p : ListedProperty) → slice_get (properties_of c) i ≡ Some p → position (λ other. bytes_eq other p.name) (names_of c) ≡ Some i
name_place c i p e =
    first_of_name (names_of c) i p.name (names_first c)
    (slice_get-map (λ (p : ListedProperty). p.name) (properties_of c) i ∙ ap (option_map (λ (p : ListedProperty). p.name)) e)

pub same_place : (c : Class) (i j : ℕ) (p q : ListedProperty) → slice_get (properties_of c) i ≡ Some p → slice_get (properties_of c) j ≡ Some q → p.name ≡ q.name → i ≡ j
same_place c i j p q e f n =
    let both : Some i ≡ Some j = sym (name_place c i p e) ∙ ap (λ name. position (λ other. bytes_eq other name) (names_of c)) n ∙ name_place c j q f in cc

-- the declaration that styles a property names it back, and gives values of its kind

abbrev decide_family : (f g : Family) → Option (f ≡ g)
decide_family family.Pos family.Pos = Some refl
decide_family family.Priority family.Priority = Some refl
decide_family family.HPos family.HPos = Some refl
decide_family family.VPos family.VPos = Some refl
decide_family _ _ = None

abbrev decide_kind : (k l : Kind) → Option (k ≡ l)
decide_kind kind.Int kind.Int = Some refl
decide_kind kind.Bool kind.Bool = Some refl
decide_kind kind.Text kind.Text = Some refl
decide_kind (kind.Choice f) (kind.Choice g) = option_map (λ e. ap kind.Choice e) (decide_family f g)
decide_kind kind.Color kind.Color = Some refl
decide_kind kind.Sides kind.Sides = Some refl
decide_kind _ _ = None

abbrev is_kind : Option Kind → Kind → Bool
is_kind None k = false
is_kind (Some l) k = is_some (decide_kind l k)

kind_told : (o : Option Kind) (k : Kind) → is_kind o k ≡ true → o ≡ Some k
kind_told None k e = absurd (cc)
kind_told (Some l) k e = ap (λ x. Some x) (some_of (decide_kind l k) e)
  where
    some_of : {A : Type 0} (o : Option A) → is_some o ≡ true → A
    some_of None e = absurd (cc)
    some_of (Some x) e = x

abbrev fits_style : PropertyRow → Option StyleRow → Bool
fits_style row None = false
fits_style row (Some style) = is_styling row.name style && is_kind (kind_of_form style.form) row.kind

abbrev fits_place : PropertyRow → Option ℕ → Bool
fits_place row None = true
fits_place row (Some place) = fits_style row (slice_get styles place)

abbrev row_fits : PropertyRow → Bool
row_fits row = fits_place row (styled_by row.name)

rows_fit : list_all row_fits rows ≡ true
unfolding rows styled_by styles
rows_fit = refl

styling_told : (name : List ℕ) (property : Option (List ℕ)) → option_map_or (λ p. bytes_eq p name) property false ≡ true → property ≡ Some name
styling_told name None e = absurd (cc)
styling_told name (Some p) e = ap (λ x. Some x) ((bytes_eq-Decides p name).0 e)

pub named_back : (row : PropertyRow) → Contains rows row → (place : ℕ) → styled_by row.name ≡ Some place → (style : StyleRow) × (style_at place ≡ Some style) × (style.property ≡ Some row.name) × (kind_of_form style.form ≡ Some row.kind)
named_back row c place e =
    let fits : fits_style row (slice_get styles place) ≡ true = subst (λ o. fits_place row o ≡ true) e (row_passes row_fits rows row rows_fit c) in
    by_style (slice_get styles place) refl fits
  where
    by_style : (o : Option StyleRow) → slice_get styles place ≡ o → fits_style row o ≡ true → (style : StyleRow) × (style_at place ≡ Some style) × (style.property ≡ Some row.name) × (kind_of_form style.form ≡ Some row.kind)
    by_style None f g = absurd (cc)
    by_style (Some style) f g =
        let q = and_parts (is_styling row.name style) (is_kind (kind_of_form style.form) row.kind) g in
        (style, f, styling_told row.name style.property q.0, kind_told (kind_of_form style.form) row.kind q.1)

-- each declaration of a property styles one

abbrev is_row : List ℕ → PropertyRow → Bool
is_row property row = bytes_eq row.name property

abbrev styles_row : ℕ → Option (List ℕ) → Bool
styles_row at None = true
styles_row at (Some property) = is_place (styled_by property) at && list_any (is_row property) rows

styles_kept : all_at (λ at style. styles_row at style.property) 0 styles ≡ true
unfolding rows styled_by styles
styles_kept = refl

pub style_kept : (place : ℕ) (style : StyleRow) (property : List ℕ) → slice_get styles place ≡ Some style → style.property ≡ Some property → (row : PropertyRow) × Contains rows row × (row.name ≡ property) × (styled_by row.name ≡ Some place)
style_kept place style property e f =
    let sum : 0 + place ≡ place = omega arith in
    let kept = passes_at (λ at (style : StyleRow). styles_row at style.property) 0 styles place style styles_kept e in
    let here : styles_row place (Some property) ≡ true = subst (λ n. styles_row n (Some property) ≡ true) sum (subst (λ o. styles_row (0 + place) o ≡ true) f kept) in
    let q = and_parts (is_place (styled_by property) place) (list_any (is_row property) rows) here in
    let row = any_sound (is_row property) rows q.1 in
    let name = (bytes_eq-Decides row.0.name property).0 row.2 in
    (row.0, row.1, name, ap styled_by name ∙ place_is (styled_by property) place q.0)
