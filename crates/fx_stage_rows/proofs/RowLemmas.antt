-- Declaring a class's rows one after another.
use Rattle.std.proofs.Common.{◌≡◌, ◌≤◌, ◌<◌, ℕ, ◌+◌, Bool, true, false, cond, List, [], ◌∷◌, ◌++◌, length, map, filter, take, get_or, replicate, Option, Some, None, refl, sym, ◌∙◌, ap, append_assoc, arith}
use Rattle.std.specs.Prelude.{slice_get}
use Rattle.std.specs.Option.{option_map}
use Rattle.std.proofs.lemmas.List.{append-nil, length-append, length-map, replicate_more, take-map}
use Rattle.std.proofs.lemmas.Option.{slice_get-get_or, slice_get-map}
use Rattle.fx_base.specs.Printing.{kind_of}
use Rattle.fx_base.specs.declared.kinds.Kind.{Kind}
use Rattle.fx_base.specs.declared.values.Value.{Value}
use Rattle.fx_graph_model.specs.declared.entries.Entry.{Entry}
use Rattle.fx_graph_model.specs.Changes.{new_entry}
use Rattle.fx_kinds.specs.declared.classes.Class.{Class}
use Rattle.fx_kinds.specs.declared.property_table.Property.{Property}
use Rattle.fx_kinds.specs.Listing.{listed_property}
use Rattle.fx_kinds.specs.Properties.{ListedProperty, PropertyRow, initial_of, listed, properties_of, rows, rows_of}
use Rattle.fx_store_model.specs.Making.{after_declared}
use Rattle.fx_store_model.specs.Stored.{Stored}
use Rattle.fx_stage_model.specs.Nodes.{with_row, with_rows}
use Rattle.fx_stage_model.specs.Taking.{with_more}
use Rattle.fx_store.specs.Together.{AreFirstStored, with_all_declared}
use Rattle.fx_stage_rows.specs.Passed.{IsPassed, declared_row, declared_rows}

-- a class has few rows

fewer : {X : Type 0} (test : X → Bool) (xs : List X) → length (filter test xs) ≤ length xs
fewer test [] = omega arith
fewer test (x ∷ xs) = by_test (test x) (fewer test xs)
  where
    by_test : (b : Bool) → length (filter test xs) ≤ length xs
        → length (cond b (x ∷ filter test xs) (filter test xs)) ≤ length (x ∷ xs)
    by_test true rest = omega (arith, rest)
    by_test false rest = omega (arith, rest)

few : (class : Class) → length (rows_of class) ≤ length rows
unfolding rows_of
few class = fewer (λ (row : PropertyRow). row.of class) rows

count_rows : length rows ≡ 25
unfolding rows
count_rows = refl

pub few_rows : (class : Class) → length (rows_of class) < 100
few_rows class = omega (arith, few class, count_rows)

-- the list of the code is as long as the table's

pub as_long : (class : Class) (list : List Property) → map listed_property list ≡ properties_of class
    → length list ≡ length (rows_of class)
as_long class list is = sym (length-map list listed_property) ∙ ap length is ∙ length-map (rows_of class) listed

-- declared rows are further entries

abbrev pub entry_of_row : Class → PropertyRow → Entry
entry_of_row class row = new_entry (kind_of (row.initial class)) row.read_only (row.initial class)

more_again : (stored : Stored) (others : List Entry) (kind : Kind) (read_only : Bool) (value : Value)
    → after_declared kind read_only value (with_more others stored)
    ≡ with_more (others ++ new_entry kind read_only value ∷ []) stored
more_again stored others kind read_only value =
    let entry = new_entry kind read_only value in
    let count = length others in
    let long : length (others ++ entry ∷ []) ≡ count + 1 = length-append others (entry ∷ []) in
    let flags = stored.unread ++ replicate count false in
    let more_flags : flags ++ false ∷ [] ≡ stored.unread ++ replicate (length (others ++ entry ∷ [])) false =
    append_assoc stored.unread (replicate count false) (false ∷ [])
    ∙ ap (λ (more : List Bool). stored.unread ++ more) (replicate_more count false)
    ∙ ap (λ (n : ℕ). stored.unread ++ replicate n false) (sym long) in
    ap (λ (es : List Entry). record stored { entries = es; unread = flags ++ false ∷ [] })
    (append_assoc stored.entries others (entry ∷ []))
    ∙ ap (λ (us : List Bool). record stored { entries = stored.entries ++ (others ++ entry ∷ []); unread = us })
    more_flags

none_more : (stored : Stored) → with_more [] stored ≡ stored
none_more stored =
    ap (λ (es : List Entry). record stored { entries = es; unread = stored.unread ++ [] }) (append-nil stored.entries)
    ∙ ap (λ (us : List Bool). record stored { unread = us }) (append-nil stored.unread)

rows_more : (class : Class) (more : List PropertyRow) (stored : Stored) (others : List Entry)
    → with_rows class more (with_more others stored) ≡ with_more (others ++ map (entry_of_row class) more) stored
rows_more class [] stored others = ap (λ (es : List Entry). with_more es stored) (sym (append-nil others))
rows_more class (row ∷ more) stored others =
    let entry = entry_of_row class row in
    ap (with_rows class more) (more_again stored others (kind_of (row.initial class)) row.read_only (row.initial class))
    ∙ rows_more class more stored (others ++ entry ∷ [])
    ∙ ap (λ (es : List Entry). with_more es stored)
    (append_assoc others (entry ∷ []) (map (entry_of_row class) more))

pub all_more : (class : Class) (more : List PropertyRow) (stored : Stored)
    → with_rows class more stored ≡ with_more (map (entry_of_row class) more) stored
all_more class more stored = ap (with_rows class more) (sym (none_more stored)) ∙ rows_more class more stored []

pub passed : (class : Class) (more : List PropertyRow) (before now : Stored) → now ≡ with_rows class more before
    → IsPassed before now
passed class more before now is =
    record { others = map (entry_of_row class) more; rest = is ∙ all_more class more before }

-- the rows as they are declared together

pub same_rows : (class : Class) (more : List PropertyRow) (stored : Stored)
    → with_all_declared (map (declared_row class) more) stored ≡ with_rows class more stored
same_rows class [] stored = refl
same_rows class (row ∷ more) stored = same_rows class more (with_row class stored row)

pub first_passed : (class : Class) (before now : Stored) → AreFirstStored (declared_rows class) before now
    → IsPassed before now
first_passed class before now first =
    let more = take first.count (rows_of class) in
    passed class more before now
    (first.first
    ∙ ap (λ (rows : List (Bool × Value)). with_all_declared rows before)
    (take-map (declared_row class) first.count (rows_of class))
    ∙ same_rows class more before)

pub count_declared : (class : Class) → length (declared_rows class) ≡ length (rows_of class)
count_declared class = length-map (rows_of class) (declared_row class)

-- the row at a place of the code's list
pub row_here : (class : Class) (list : List Property) (place : ℕ) (d : Property) (v : Value)
    → map listed_property list ≡ properties_of class → place < length list → initial_of class place ≡ Some v
    → slice_get (declared_rows class) place ≡ Some ((get_or list place d).read_only, v)
row_here class list place d v is within first =
    let here : option_map listed (slice_get (rows_of class) place) ≡ Some (listed_property (get_or list place d)) =
    sym (slice_get-map listed (rows_of class) place) ∙ ap (λ (ps : List ListedProperty). slice_get ps place) (sym is)
    ∙ slice_get-map listed_property list place
    ∙ ap (option_map listed_property) (slice_get-get_or list place d within) in
    slice_get-map (declared_row class) (rows_of class) place ∙ by_row (slice_get (rows_of class) place) here first
  where
    by_row : (o : Option PropertyRow) → option_map listed o ≡ Some (listed_property (get_or list place d))
        → option_map (λ (row : PropertyRow). row.initial class) o ≡ Some v
        → option_map (declared_row class) o ≡ Some ((get_or list place d).read_only, v)
    by_row None e f = absurd (cc)
    by_row (Some row) e f =
        let same : listed row ≡ listed_property (get_or list place d) = cc in
        let value : row.initial class ≡ v = cc in
        let fixed : row.read_only ≡ (get_or list place d).read_only =
        ap (λ (q : ListedProperty). q.read_only) same in
        ap (λ (r : Bool). Some (r, row.initial class)) fixed
        ∙ ap (λ (u : Value). Some ((get_or list place d).read_only, u)) value
