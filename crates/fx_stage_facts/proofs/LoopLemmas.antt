-- Lists that are made piece by piece.
use Rattle.std.proofs.Common.{◌≡◌, ◌∙◌, ◌<◌, ◌≤◌, ◌+◌, ◌-◌, ◌&&◌, ℕ, suc, Bool, true, false, cond, List, [], ◌∷◌, ◌++◌, add-one, append_assoc, arith, drop, drop-cons, filter, get_or, length, map, refl, sym, ap}
use Rattle.std.specs.List.{list_any, range_with_len}
use Rattle.std.proofs.Math.ListN.{get_or-map}
use Rattle.std.proofs.lemmas.Bool.{or_parts}
use Rattle.std.proofs.lemmas.List.{append-nil, drop_all, length-map, nil_from_length}
use Rattle.fx_handles.proofs.Given.{range_with_len-suc}
use Rattle.fx_graph_model.specs.Unread.{marked}
use Rattle.fx_kinds.specs.declared.classes.Class.{Class}
use Rattle.fx_kinds.specs.declared.property_table.Property.{Property}
use Rattle.fx_kinds.specs.Listing.{listed_property}
use Rattle.fx_kinds.specs.Properties.{ListedProperty, properties_of}
use Rattle.fx_stage_facts.specs.Attached.{displayed_from, is_displayed, one_if}
use Rattle.fx_stage_facts.specs.Places.{styled_at, styled_from}

-- a piece goes from what is left to what is done
pub piece_done : {X : Type 0} (done now piece left more whole : List X) → now ≡ done ++ piece → left ≡ piece ++ more
    → done ++ left ≡ whole → now ++ more ≡ whole
piece_done done now piece left more whole is begins so_far =
    ap (λ xs. xs ++ more) is ∙ append_assoc done piece more ∙ ap (λ xs. done ++ xs) (sym begins) ∙ so_far

-- nothing is left
pub all_done : {X Y : Type 0} (done whole : List X) (from : List Y → List X) (ys : List Y) → from [] ≡ []
    → done ++ from (drop (length ys) ys) ≡ whole → done ≡ whole
all_done done whole from ys none so_far =
    sym (append-nil done) ∙ ap (λ xs. done ++ xs) (sym (ap from (drop_all (length ys) ys (omega arith)) ∙ none)) ∙ so_far

-- nothing is put behind the others
pub none_put : {X Y : Type 0} (f : X → Y) (ys : List Y) (xs : List X) → length xs ≡ 0 → ys ≡ ys ++ map f xs
none_put f ys xs none = sym (ap (λ zs. ys ++ map f zs) (nil_from_length xs none) ∙ append-nil ys)

pub next_left : {X : Type 0} (xs : List X) (place : ℕ) (d : X) → place < length xs
    → drop place xs ≡ get_or xs place d ∷ drop (place + 1) xs
next_left xs place d within =
    drop-cons xs place d within ∙ ap (λ (n : ℕ). get_or xs place d ∷ drop n xs) (sym (add-one place))

-- the rows of a class, as the code lists them

pub row_at : (class : Class) (list : List Property) (place : ℕ) (d : Property) → map listed_property list ≡ properties_of class
    → get_or (properties_of class) place (listed_property d) ≡ listed_property (get_or list place d)
row_at class list place d are =
    ap (λ (ps : List ListedProperty). get_or ps place (listed_property d)) (sym are) ∙ get_or-map listed_property list place d

pub row_left : (class : Class) (list : List Property) (place : ℕ) (d : Property) → map listed_property list ≡ properties_of class
    → place < length list
    → drop place (properties_of class) ≡ listed_property (get_or list place d) ∷ drop (place + 1) (properties_of class)
row_left class list place d are within =
    let long : length (properties_of class) ≡ length list = sym (ap length are) ∙ length-map list listed_property in
    next_left (properties_of class) place (listed_property d) (omega (arith, within, long))
    ∙ ap (λ (p : ListedProperty). p ∷ drop (place + 1) (properties_of class)) (row_at class list place d are)

pub displayed_next : (first : ℕ) (ps : List ListedProperty) (place : ℕ) (row : ListedProperty)
    → drop place ps ≡ row ∷ drop (place + 1) ps
    → displayed_from (first + place) (drop place ps)
    ≡ one_if (is_displayed row.name) (first + place) ++ displayed_from (first + (place + 1)) (drop (place + 1) ps)
displayed_next first ps place row is =
    ap (displayed_from (first + place)) is
    ∙ ap (λ (n : ℕ). one_if (is_displayed row.name) (first + place) ++ displayed_from n (drop (place + 1) ps)) (omega arith)

-- of a row that a frame reads, or doesn't, its name is left if it is unread
left_first : (test : ℕ → Bool) (displayed : Bool) (name : ℕ) (rest : List ℕ)
    → filter test (one_if displayed name ++ rest) ≡ one_if (test name && displayed) name ++ filter test rest
left_first test true name rest = by_test (test name)
  where
    by_test : (b : Bool) → cond b (name ∷ filter test rest) (filter test rest) ≡ one_if (b && true) name ++ filter test rest
    by_test true = refl
    by_test false = refl
left_first test false name rest = by_test (test name)
  where
    by_test : (b : Bool) → filter test rest ≡ one_if (b && false) name ++ filter test rest
    by_test true = refl
    by_test false = refl

pub unread_next : (unread : List Bool) (first : ℕ) (ps : List ListedProperty) (place : ℕ) (row : ListedProperty)
    → drop place ps ≡ row ∷ drop (place + 1) ps
    → filter (marked unread) (displayed_from (first + place) (drop place ps))
    ≡ one_if (marked unread (first + place) && is_displayed row.name) (first + place)
    ++ filter (marked unread) (displayed_from (first + (place + 1)) (drop (place + 1) ps))
unread_next unread first ps place row is =
    ap (filter (marked unread)) (displayed_next first ps place row is)
    ∙ left_first (marked unread) (is_displayed row.name) (first + place) (displayed_from (first + (place + 1)) (drop (place + 1) ps))

pub styled_next : (ps : List ListedProperty) (place : ℕ) (row : ListedProperty) → drop place ps ≡ row ∷ drop (place + 1) ps
    → styled_from place (drop place ps) ≡ styled_at place row.styled ++ styled_from (place + 1) (drop (place + 1) ps)
styled_next ps place row is = ap (styled_from place) is

-- places

pub range_next : (start place : ℕ) (old before now : List ℕ) → start ≤ place → now ≡ before ++ place ∷ []
    → before ≡ old ++ range_with_len start (place - start) → now ≡ old ++ range_with_len start (place + 1 - start)
range_next start place old before now low pushed before_is =
    let next : place + 1 - start ≡ suc (place - start) = omega (arith, low) in
    let at : start + (place - start) ≡ place = omega (arith, low) in
    pushed
    ∙ ap (λ (ns : List ℕ). ns ++ place ∷ []) before_is
    ∙ append_assoc old (range_with_len start (place - start)) (place ∷ [])
    ∙ ap (λ (ns : List ℕ). old ++ ns)
    (sym
    (ap (range_with_len start) next
    ∙ range_with_len-suc start (place - start)
    ∙ ap (λ (n : ℕ). range_with_len start (place - start) ++ n ∷ []) at))

-- of properties of which none is unread, no name is left
pub none_unread : (unread : List Bool) (name : ℕ) (ps : List ListedProperty)
    → list_any (marked unread) (range_with_len name (length ps)) ≡ false
    → filter (marked unread) (displayed_from name ps) ≡ []
none_unread unread name [] none = refl
none_unread unread name (p ∷ ps) none =
    let parts = or_parts (marked unread name) (list_any (marked unread) (range_with_len (name + 1) (length ps))) none in
    by (is_displayed p.name) (none_unread unread (name + 1) ps parts.1) parts.0
  where
    by : (b : Bool) → filter (marked unread) (displayed_from (name + 1) ps) ≡ [] → marked unread name ≡ false
        → filter (marked unread) (one_if b name ++ displayed_from (name + 1) ps) ≡ []
    by false rest read = rest
    by true rest read =
        ap (λ (m : Bool). cond m (name ∷ filter (marked unread) (displayed_from (name + 1) ps))
        (filter (marked unread) (displayed_from (name + 1) ps))) read
        ∙ rest

-- the rows of a class, as the code lists them, are as many as the table's
pub as_many : (class : Class) (list : List Property) → map listed_property list ≡ properties_of class
    → length list ≡ length (properties_of class)
as_many class list are = sym (length-map list listed_property) ∙ ap length are

pub none_pushed : {X : Type 0} (done left : List X) → left ≡ [] → done ≡ done ++ left
none_pushed done left none = sym (ap (λ xs. done ++ xs) none ∙ append-nil done)
