-- A property that is found at a place is the only one of its class that has its name.
use Rattle.std.proofs.Common.{◌≡◌, ℕ, Bool, true, false, List, [], ◌∷◌, map, Some, cond, zero, suc, refl, sym, ap, ◌∙◌}
use Rattle.std.specs.List.{find, slice_get}
use Rattle.std.specs.Option.{option_map}
use Rattle.std.specs.Str.{bytes_eq}
use Rattle.std.proofs.lemmas.Slice.Eq.{bytes_eq-Decides}
use Rattle.std.proofs.lemmas.Option.{slice_get-map}
use Rattle.fx_kinds.proofs.PropertyLemmas.{same_place}
use Rattle.fx_kinds.specs.Listing.{listed_property}
use Rattle.fx_kinds.specs.Properties.{ListedProperty, properties_of}
use Rattle.fx_kinds.specs.declared.classes.Class.{Class}
use Rattle.fx_kinds.specs.declared.property_table.Property.{Property}
use Rattle.fx_scene_values.specs.Properties.{listed}

-- the only place at which an item passes is the first one
found_first : {X : Type 0} (test : X → Bool) (xs : List X) (i : ℕ) (x : X) → slice_get xs i ≡ Some x → test x ≡ true
    → ((j : ℕ) (y : X) → slice_get xs j ≡ Some y → test y ≡ true → j ≡ i) → find test xs ≡ Some x
found_first test [] i x e t only = absurd (cc)
found_first {X} test (y ∷ ys) zero x e t only =
    let same : y ≡ x = cc in
    ap (λ b. cond b (Some y) (find test ys)) (ap test same ∙ t) ∙ e
found_first {X} test (y ∷ ys) (suc i) x e t only =
    by (test y) refl (found_first test ys i x e t (λ j z f p. let next : suc j ≡ suc i = only (suc j) z f p in cc))
  where
    by : (b : Bool) → test y ≡ b → find test ys ≡ Some x → cond b (Some y) (find test ys) ≡ Some x
    by true h behind = let wrong : 0 ≡ suc i = only 0 y refl h in absurd (cc)
    by false h behind = behind

pub one_named : (c : Class) (list : List Property) (place : ℕ) (name : List ℕ) (p : Property)
    → map listed_property list ≡ properties_of c
    → (slice_get list place ≡ Some p) × (bytes_eq p.name.now name ≡ true)
    → Some (listed_property p) ≡ listed c name
one_named c list place name p e h =
    let same : p.name.now ≡ name = (bytes_eq-Decides p.name.now name).0 h.1 in
    let here : slice_get (properties_of c) place ≡ Some (listed_property p) =
    sym (ap (λ xs. slice_get xs place) e) ∙ (slice_get-map listed_property list place ∙ ap (option_map listed_property) h.0) in
    sym (found_first (λ (q : ListedProperty). bytes_eq q.name name) (properties_of c) place (listed_property p) here h.1
    (λ j q f t. same_place c j place q (listed_property p) f here ((bytes_eq-Decides q.name name).0 t ∙ sym same)))
