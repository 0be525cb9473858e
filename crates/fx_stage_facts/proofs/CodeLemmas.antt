-- Values by code, property by property.
use Rattle.std.proofs.Common.{◌≡◌, ◌∙◌, ◌<◌, ◌+◌, ◌&&◌, ◌||◌, ℕ, zero, suc, Bool, true, false, cond, not, List, [], ◌∷◌, ◌++◌, All, Contains, arith, filter, get_or, length, map, Option, Some, None, is_some, refl, sym, ap, subst, true≢false}
use Rattle.std.specs.Prelude.{option_to_list}
use Rattle.std.specs.List.{list_all}
use Rattle.std.proofs.lemmas.List.{length-map}
use Rattle.std.proofs.lemmas.List.Elements.{All-cons, All-nil}
use Rattle.fx_graph_model.specs.declared.entries.Entry.{Entry}
use Rattle.fx_kinds.specs.declared.classes.Class.{Class}
use Rattle.fx_kinds.specs.declared.property_table.Property.{Property}
use Rattle.fx_kinds.specs.Listing.{listed_property}
use Rattle.fx_kinds.specs.Properties.{ListedProperty, PropertyRow, listed, properties_of, rows, rows_of, styled_by}
use Rattle.fx_look.specs.Styles.{styles}
use Rattle.fx_look.specs.declared.styles.CodeValue.{CodeValue}
use Rattle.fx_stage_rows.proofs.RowLemmas.{few_rows}
use Rattle.fx_stage_types.specs.declared.node_data.NodeData.{NodeData}
use Rattle.fx_store_model.specs.Stored.{Stored}
use Rattle.fx_stage_facts.specs.Attached.{displayed_in, is_displayed}
use Rattle.fx_stage_facts.specs.declared.places.Styled.{Styled}
use Rattle.fx_stage_facts.specs.Places.{styled_at, styled_from, styled_of}
use Rattle.fx_stage_facts.specs.Reads.{AreStyledRead, IsRead, IsStyledRead}
use Rattle.fx_stage_facts.specs.Styles.{code_of, codes_from, styled_codes}
use Rattle.fx_stage_facts.proofs.LoopLemmas.{row_at}
use Rattle.fx_stage_facts.proofs.ReadLemmas.{displayed_place}

-- what is true of each row of the table is so of each of a class

both_true : (a b : Bool) → (a && b) ≡ true → (a ≡ true) × (b ≡ true)
both_true true true is = (refl, refl)
both_true true false is = absurd (true≢false (sym is))
both_true false b is = absurd (true≢false (sym is))

module _ (fit : ListedProperty → Bool) where
  fit_among : (test : PropertyRow → Bool) (xs : List PropertyRow) (k : ℕ) (d : ListedProperty)
      → list_all (λ (row : PropertyRow). fit (listed row)) xs ≡ true → k < length (map listed (filter test xs))
      → fit (get_or (map listed (filter test xs)) k d) ≡ true
  fit_among test [] k d all within = absurd (omega (arith, within))
  fit_among test (x ∷ xs) k d all within =
      by_test (test x) k (both_true (fit (listed x)) (list_all (λ (row : PropertyRow). fit (listed row)) xs) all).0
      (λ j. fit_among test xs j d (both_true (fit (listed x)) (list_all (λ (row : PropertyRow). fit (listed row)) xs) all).1)
      within
    where
      by_test : (b : Bool) (k : ℕ) → fit (listed x) ≡ true
          → ((j : ℕ) → j < length (map listed (filter test xs)) → fit (get_or (map listed (filter test xs)) j d) ≡ true)
          → k < length (map listed (cond b (x ∷ filter test xs) (filter test xs)))
          → fit (get_or (map listed (cond b (x ∷ filter test xs) (filter test xs))) k d) ≡ true
      by_test false k first more within = more k within
      by_test true zero first more within = first
      by_test true (suc k) first more within = more k (omega (arith, within))

  fit_property : list_all (λ (row : PropertyRow). fit (listed row)) rows ≡ true → (class : Class) (k : ℕ) (d : ListedProperty)
      → k < length (properties_of class) → fit (get_or (properties_of class) k d) ≡ true
  unfolding rows_of
  fit_property all class k d within = fit_among (λ (row : PropertyRow). row.of class) rows k d all within

-- what isn't only published is read by a frame, and nothing else

abbrev is_told : ListedProperty → Bool
is_told property = cond property.read_only (not (is_displayed property.name)) (is_displayed property.name)

all_told : list_all (λ (row : PropertyRow). is_told (listed row)) rows ≡ true
unfolding rows
all_told = refl

told_if : (read_only displayed : Bool) → cond read_only (not displayed) displayed ≡ true → not read_only ≡ displayed
told_if true true told = absurd (true≢false (sym told))
told_if true false told = refl
told_if false displayed told = sym told

-- of a row of the class, as the code lists it
pub row_told : (class : Class) (list : List Property) (place : ℕ) (d : Property)
    → map listed_property list ≡ properties_of class → place < length list
    → not (get_or list place d).read_only ≡ is_displayed (get_or list place d).name.now
row_told class list place d are within =
    let long : length (properties_of class) ≡ length list = sym (ap length are) ∙ length-map list listed_property in
    let row = get_or list place d in
    told_if row.read_only (is_displayed row.name.now)
    (ap is_told (sym (row_at class list place d are))
    ∙ fit_property is_told all_told class place (listed_property d) (omega (arith, within, long)))

-- what a declaration styles is read by a frame

abbrev is_fit : ListedProperty → Bool
is_fit property = not (is_some property.styled) || is_displayed property.name

all_fit : list_all (λ (row : PropertyRow). is_fit (listed row)) rows ≡ true
unfolding rows styled_by styles
all_fit = refl

displayed_if : (styled : Option ℕ) (displayed : Bool) (style : ℕ) → styled ≡ Some style
    → (not (is_some styled) || displayed) ≡ true → displayed ≡ true
displayed_if None displayed style is fit = absurd (cc)
displayed_if (Some other) displayed style is fit = fit

-- so such a property is known and was read
pub styled_read : (node : NodeData) (k : ℕ) (d : ListedProperty) (style : ℕ) → k < length (properties_of node.class)
    → (get_or (properties_of node.class) k d).styled ≡ Some style → Contains (displayed_in (Some node)) (node.first + k)
styled_read node k d style within is =
    displayed_place node.first (properties_of node.class) k d within
    (displayed_if (get_or (properties_of node.class) k d).styled (is_displayed (get_or (properties_of node.class) k d).name) style is
    (fit_property is_fit all_fit node.class k d within))

-- what is true of a property that a declaration styles, by its place, is so of all of them
styled_all : (P : Styled → Type 0) (ps : List ListedProperty) (n : ℕ)
    → ((k place style : ℕ) (d : ListedProperty) → place ≡ n + k → k < length ps → (get_or ps k d).styled ≡ Some style
    → P (record { place = place; style = record { 0 = style } }))
    → All P (styled_from n ps)
styled_all P [] n holds = All-nil P
styled_all P (p ∷ ps) n holds =
    by_style p.styled (λ style is. holds 0 n style p (omega arith) (omega arith) is)
    (styled_all P ps (n + 1)
    (λ k place style d at within is. holds (suc k) place style d (omega (arith, at)) (omega (arith, within)) is))
  where
    by_style : (o : Option ℕ) → ((style : ℕ) → o ≡ Some style → P (record { place = n; style = record { 0 = style } }))
        → All P (styled_from (n + 1) ps) → All P (styled_at n o ++ styled_from (n + 1) ps)
    by_style None first rest = rest
    by_style (Some style) first rest =
        All-cons P (record { place = n; style = record { 0 = style } }) (styled_from (n + 1) ps) (first style refl) rest

-- those of a node that was read are
pub styled_are_read : (store : Stored) (node : NodeData) (class : Class) (styled : List Styled) → IsRead store node
    → class ≡ node.class → styled ≡ styled_of class → AreStyledRead store node.first styled
styled_are_read store node class styled read same are =
    subst (λ (rows : List Styled). AreStyledRead store node.first rows) (sym (are ∙ ap styled_of same))
    (styled_all (IsStyledRead store node.first) (properties_of node.class) 0
    (λ k place style d at within is.
    let here : k ≡ place = omega (arith, at) in
    let there : Contains (displayed_in (Some node)) (node.first + place) =
    subst (λ (n : ℕ). Contains (displayed_in (Some node)) (node.first + n)) here (styled_read node k d style within is) in
    let long : length (properties_of node.class) ≡ length (rows_of node.class) = length-map (rows_of node.class) listed in
    record {
      low = omega (arith, at, within, long, few_rows node.class, read.low);
      known = read.known (node.first + place) there;
      read = read.read (node.first + place) there;
    }))

-- the values by code of those that declarations style are the ones of all

codes_from_styled : (entries : List Entry) (first n : ℕ) (ps : List ListedProperty)
    → styled_codes entries first (styled_from n ps) ≡ codes_from entries (first + n) ps
codes_from_styled entries first n [] = refl
codes_from_styled entries first n (p ∷ ps) =
    by_style p.styled
    ∙ ap (λ (codes : List CodeValue). option_to_list (code_of entries (first + n) p.styled) ++ codes)
    (codes_from_styled entries first (n + 1) ps ∙ ap (λ (m : ℕ). codes_from entries m ps) (omega arith))
  where
    by_style : (o : Option ℕ) → styled_codes entries first (styled_at n o ++ styled_from (n + 1) ps)
        ≡ option_to_list (code_of entries (first + n) o) ++ styled_codes entries first (styled_from (n + 1) ps)
    by_style None = refl
    by_style (Some style) = refl

pub codes_of_styled : (entries : List Entry) (first : ℕ) (class other : Class) (styled : List Styled) → class ≡ other
    → styled ≡ styled_of class → styled_codes entries first styled ≡ codes_from entries first (properties_of other)
codes_of_styled entries first class other styled same are =
    ap (styled_codes entries first) (are ∙ ap styled_of same)
    ∙ codes_from_styled entries first 0 (properties_of other)
    ∙ ap (λ (n : ℕ). codes_from entries n (properties_of other)) (omega arith)
