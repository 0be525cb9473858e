-- What is made behind some attributes, one attribute more at a time.
use Rattle.std.proofs.Common.{◌≡◌, ◌<◌, ℕ, ◌+◌, List, ◌∷◌, drop, length, get_or, map, refl, sym, ◌∙◌, ap}
use Rattle.std.proofs.lemmas.List.{drop_more}
use Rattle.fx_doc.specs.Views.{attr_view}
use Rattle.fx_doc_runs.specs.declared.document.Attribute.{Attribute}
use Rattle.fx_kinds.specs.declared.classes.Class.{Class}
use Rattle.fx_scene_instances.specs.declared.made.Found.{Found}
use Rattle.fx_scene_instances.specs.declared.made.Found.TheVariants.{Whole, Flaw, Node}
use Rattle.fx_scene_instances.specs.declared.made.Made.{Made}
use Rattle.fx_scene_literals.specs.Literals.{Told, attribute_told, found_then, made_from, told}
use Rattle.fx_scene_things.specs.Names.{Names}
use Rattle.fx_scene_values.specs.Scopes.{Scope}

abbrev rest_of : Scope → Class → List Attribute → ℕ → Found → Names → Told
rest_of scope class attributes i found names =
    found_then found names (λ next known. made_from scope class next known (map attr_view (drop (i + 1) attributes)))

next_is : (scope : Scope) (class : Class) (attributes : List Attribute) (i : ℕ) (x : Attribute) (made : Made)
    (old names : Names) (found : Found) (whole : Told) → i < length attributes → x ≡ get_or attributes i x
    → found ≡ (attribute_told scope class (attr_view x) made old).found
    → names ≡ (attribute_told scope class (attr_view x) made old).names
    → made_from scope class made old (map attr_view (drop i attributes)) ≡ whole
    → rest_of scope class attributes i found names ≡ whole
next_is scope class attributes i x made old names found whole h is found_is names_is so_far =
    ap (λ (f : Found). rest_of scope class attributes i f names) found_is
    ∙ (ap (λ (n : Names). rest_of scope class attributes i (attribute_told scope class (attr_view x) made old).found n) names_is
    ∙ (sym (ap (λ left. made_from scope class made old (map attr_view left))
    (drop_more attributes i x h ∙ ap (λ y. y ∷ drop (i + 1) attributes) (sym is))) ∙ so_far))

abbrev IsStop : Found → Type 0
IsStop (Whole made) = ⊥
IsStop (Flaw mistake place) = Unit {0}
IsStop (Node place) = Unit {0}

stopped : (scope : Scope) (class : Class) (attributes : List Attribute) (i : ℕ) (stop : Found) (names : Names)
    → IsStop stop → rest_of scope class attributes i stop names ≡ told stop names
stopped scope class attributes i (Whole made) names h = absurd h
stopped scope class attributes i (Flaw mistake place) names h = refl
stopped scope class attributes i (Node place) names h = refl

pub attribute_stops : (scope : Scope) (class : Class) (attributes : List Attribute) (i : ℕ) (x : Attribute) (made : Made)
    (old names : Names) (found : Found) (whole : Told) (stop : Found) → i < length attributes
    → x ≡ get_or attributes i x → found ≡ (attribute_told scope class (attr_view x) made old).found
    → names ≡ (attribute_told scope class (attr_view x) made old).names → found ≡ stop → IsStop stop
    → made_from scope class made old (map attr_view (drop i attributes)) ≡ whole
    → told stop names ≡ whole
attribute_stops scope class attributes i x made old names found whole stop h is found_is names_is stops stands so_far =
    sym (stopped scope class attributes i stop names stands)
    ∙ (ap (λ (f : Found). rest_of scope class attributes i f names) (sym stops)
    ∙ next_is scope class attributes i x made old names found whole h is found_is names_is so_far)

pub attribute_goes : (scope : Scope) (class : Class) (attributes : List Attribute) (i : ℕ) (x : Attribute)
    (made next : Made) (old names : Names) (found : Found) (whole : Told) → i < length attributes
    → x ≡ get_or attributes i x → found ≡ (attribute_told scope class (attr_view x) made old).found
    → names ≡ (attribute_told scope class (attr_view x) made old).names → found ≡ Whole next
    → made_from scope class made old (map attr_view (drop i attributes)) ≡ whole
    → made_from scope class next names (map attr_view (drop (i + 1) attributes)) ≡ whole
attribute_goes scope class attributes i x made next old names found whole h is found_is names_is goes so_far =
    ap (λ (f : Found). rest_of scope class attributes i f names) (sym goes)
    ∙ next_is scope class attributes i x made old names found whole h is found_is names_is so_far
