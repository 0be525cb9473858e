-- What a frame reads of a node stands around its width and its height, so two ranges of names tell whether any of it is
-- unread.
use Rattle.std.proofs.Common.{◌≡◌, ◌∙◌, ◌<◌, ◌+◌, ◌-◌, ℕ, Bool, false, List, [], ◌∷◌, ◌++◌, Contains, append_assoc, arith, drop, filter, get_or, length, map, take, Option, Some, refl, sym, ap}
use Rattle.std.specs.Prelude.{codes}
use Rattle.std.specs.List.{list_any, range_with_len}
use Rattle.std.proofs.lemmas.Bool.{false_from_ne_true}
use Rattle.std.proofs.lemmas.List.{length-drop, length-map, length-take-le, take-append-drop}
use Rattle.std.proofs.lemmas.List.Elements.{filter-append}
use Rattle.std.proofs.lemmas.List.Quantifiers.{position-Some}
use Rattle.fx_graph_model.specs.Unread.{marked}
use Rattle.fx_graph_model.proofs.Members.{contains_filter}
use Rattle.fx_kinds.specs.declared.classes.Class.{Class}
use Rattle.fx_kinds.specs.declared.property_table.Property.{Property}
use Rattle.fx_kinds.specs.Listing.{listed_property}
use Rattle.fx_kinds.specs.Properties.{ListedProperty, listed, properties_of, rows_of}
use Rattle.fx_stage_rows.proofs.RowLemmas.{few_rows}
use Rattle.fx_stage_types.specs.declared.node_data.NodeData.{NodeData}
use Rattle.fx_stage_model.specs.Looking.{place_of}
use Rattle.fx_stage_facts.specs.declared.places.Around.{Around}
use Rattle.fx_stage_facts.specs.Attached.{displayed_from, is_displayed, one_if}
use Rattle.fx_stage_facts.specs.Places.{IsAround}
use Rattle.fx_stage_facts.specs.Unread.{unread_in}
use Rattle.fx_stage_facts.proofs.LoopLemmas.{displayed_next, next_left, none_unread}
use Rattle.fx_stage_facts.proofs.ValueLemmas.{named, same_name, some_property}

displayed_parts : (name : ℕ) (xs ys : List ListedProperty)
    → displayed_from name (xs ++ ys) ≡ displayed_from name xs ++ displayed_from (name + length xs) ys
displayed_parts name [] ys =
    let same : name ≡ name + 0 = omega arith in
    ap (λ (n : ℕ). displayed_from n ys) same
displayed_parts name (x ∷ xs) ys =
    let same : name + 1 + length xs ≡ name + length (x ∷ xs) = omega arith in
    ap (λ (ns : List ℕ). one_if (is_displayed x.name) name ++ ns)
    (displayed_parts (name + 1) xs ys ∙ ap (λ (n : ℕ). displayed_from (name + 1) xs ++ displayed_from n ys) same)
    ∙ sym
    (append_assoc (one_if (is_displayed x.name) name) (displayed_from (name + 1) xs)
    (displayed_from (name + length (x ∷ xs)) ys))

-- a property that a frame doesn't read is passed over
passed_over : (first : ℕ) (ps : List ListedProperty) (place : ℕ) (d : ListedProperty) → place < length ps
    → is_displayed (get_or ps place d).name ≡ false
    → displayed_from (first + place) (drop place ps) ≡ displayed_from (first + (place + 1)) (drop (place + 1) ps)
passed_over first ps place d within off =
    displayed_next first ps place (get_or ps place d) (next_left ps place d within)
    ∙ ap (λ (b : Bool). one_if b (first + place) ++ displayed_from (first + (place + 1)) (drop (place + 1) ps)) off

displayed_around : (first : ℕ) (ps : List ListedProperty) (front : ℕ) (d : ListedProperty) → front + 1 < length ps
    → is_displayed (get_or ps front d).name ≡ false → is_displayed (get_or ps (front + 1) d).name ≡ false
    → displayed_from first ps
    ≡ displayed_from first (take front ps) ++ displayed_from (first + (front + 1 + 1)) (drop (front + 1 + 1) ps)
displayed_around first ps front d within one two =
    let long : length (take front ps) ≡ front = length-take-le front ps (omega (arith, within)) in
    ap (displayed_from first) (sym (take-append-drop front ps))
    ∙ displayed_parts first (take front ps) (drop front ps)
    ∙ ap (λ (n : ℕ). displayed_from first (take front ps) ++ displayed_from (first + n) (drop front ps)) long
    ∙ ap (λ (ns : List ℕ). displayed_from first (take front ps) ++ ns)
    (passed_over first ps front d (omega (arith, within)) one ∙ passed_over first ps (front + 1) d within two)

none_around : (unread : List Bool) (first front behind : ℕ) (ps : List ListedProperty) (d : ListedProperty)
    → front + 2 + behind ≡ length ps → is_displayed (get_or ps front d).name ≡ false
    → is_displayed (get_or ps (front + 1) d).name ≡ false
    → list_any (marked unread) (range_with_len first front) ≡ false
    → list_any (marked unread) (range_with_len (first + front + 2) behind) ≡ false
    → filter (marked unread) (displayed_from first ps) ≡ []
none_around unread first front behind ps d whole one two before after =
    let within : front + 1 < length ps = omega (arith, whole) in
    let front_long : length (take front ps) ≡ front = length-take-le front ps (omega (arith, within)) in
    let left : length (drop (front + 1 + 1) ps) ≡ length ps - (front + 1 + 1) = length-drop (front + 1 + 1) ps in
    let rest_long : length (drop (front + 1 + 1) ps) ≡ behind = omega (arith, left, whole) in
    let at : first + (front + 1 + 1) ≡ first + front + 2 = omega arith in
    let none_before : filter (marked unread) (displayed_from first (take front ps)) ≡ [] =
    none_unread unread first (take front ps)
    (ap (λ (n : ℕ). list_any (marked unread) (range_with_len first n)) front_long ∙ before) in
    let none_after : filter (marked unread) (displayed_from (first + (front + 1 + 1)) (drop (front + 1 + 1) ps)) ≡ [] =
    none_unread unread (first + (front + 1 + 1)) (drop (front + 1 + 1) ps)
    (ap (λ (n : ℕ). list_any (marked unread) (range_with_len n (length (drop (front + 1 + 1) ps)))) at
    ∙ ap (λ (n : ℕ). list_any (marked unread) (range_with_len (first + front + 2) n)) rest_long
    ∙ after) in
    ap (filter (marked unread)) (displayed_around first ps front d within one two)
    ∙ filter-append (marked unread) (displayed_from first (take front ps))
    (displayed_from (first + (front + 1 + 1)) (drop (front + 1 + 1) ps))
    ∙ ap (λ (ns : List ℕ). ns ++ filter (marked unread) (displayed_from (first + (front + 1 + 1)) (drop (front + 1 + 1) ps)))
    none_before
    ∙ none_after

-- the property of a name that a frame doesn't read
not_read : (class : Class) (property : List ℕ) (place : ℕ) → place_of class property ≡ Some place
    → is_displayed property ≡ false
    → (place < length (properties_of class)) × (is_displayed (get_or (properties_of class) place some_property).name ≡ false)
unfolding place_of
not_read class property place found off =
    let at = position-Some (named property) (properties_of class) place some_property found in (
      at.0,
      ap is_displayed (same_name (get_or (properties_of class) place some_property).name property at.1) ∙ off,
    )

pub none_read : (unread : List Bool) (node : NodeData) (around : Around) → IsAround node.class around
    → list_any (marked unread) (range_with_len node.first around.front) ≡ false
    → list_any (marked unread) (range_with_len (node.first + around.front + 2) around.behind) ≡ false
    → unread_in unread (Some node) ≡ []
none_read unread node around is before after =
    none_around unread node.first around.front around.behind (properties_of node.class) some_property is.long
    (not_read node.class (codes "width") around.front is.width refl).1
    (not_read node.class (codes "height") (around.front + 1) is.height refl).1 before after

-- places of a class

pub few_front : (class : Class) (around : Around) → IsAround class around → around.front < 100
few_front class around is = omega (arith, is.long, few_rows class, length-map (rows_of class) listed)

pub next_within : (class : Class) (list : List Property) (property : List ℕ) (place : ℕ) (o : Option ℕ)
    → map listed_property list ≡ properties_of class → o ≡ place_of class property → o ≡ Some place
    → place < length list
unfolding place_of
next_within class list property place o are is found =
    let at = position-Some (named property) (properties_of class) place some_property (sym is ∙ found) in
    let long : length (properties_of class) ≡ length list = sym (ap length are) ∙ length-map list listed_property in
    omega (arith, at.0, long)

-- of names of which none is unread, none is
pub none_of_all : (unread : List Bool) (names : List ℕ) (name : ℕ) → filter (marked unread) names ≡ []
    → Contains names name → marked unread name ≡ false
none_of_all unread names name none there =
    false_from_ne_true (marked unread name)
    (λ on. nowhere (filter (marked unread) names) none (contains_filter (marked unread) names name there on))
  where
    nowhere : (found : List ℕ) → found ≡ [] → Contains found name → ⊥
    nowhere [] is within = absurd (omega (arith, within.1))
    nowhere (x ∷ xs) is within = absurd (cc)
