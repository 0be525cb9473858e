-- Attributes, one after another, and what one of them asks for.
use Rattle.std.proofs.Common.{◌≡◌, ◌<◌, ◌+◌, ℕ, Bool, List, [], ◌∷◌, ◌++◌, Result, map, take, get_or, length, sym, ◌∙◌, ap, subst, append_assoc, append-nil}
use Rattle.std.specs.List.{flat_map}
use Rattle.std.specs.Result.{OnOk}
use Rattle.std.proofs.lemmas.Grind.{flat_map-append}
use Rattle.std.proofs.lemmas.List.{map-append, take_more}
use Rattle.fx_base.specs.declared.positions.Position.{Position}
use Rattle.fx_doc_grammar.specs.Grammar.{Attr}
use Rattle.fx_kinds.specs.declared.classes.Class.{Class}
use Rattle.fx_scene_acts.specs.declared.acts.Act.{Act}
use Rattle.fx_scene_acts.specs.declared.acts.Deed.{Deed}
use Rattle.fx_scene_elements.specs.Added.{acts_at, deed_at}
use Rattle.fx_scene_read.specs.Acting.{attribute_deeds, deeds_by}
use Rattle.fx_scene_things.specs.Names.{Names}
use Rattle.fx_scene_values.specs.Roles.{role_of}
use Rattle.fx_scene_values.specs.Scopes.{Scope}
use Rattle.fx_scene_values.specs.declared.roles.Role.{Role}

pub walked : {A B C : Type 0} (view : A → B) (f : B → List C) (xs : List A) (i : ℕ) (x : A) (before now next : List C)
    → i < length xs → x ≡ get_or xs i x → now ≡ before ++ flat_map f (map view (take i xs)) → next ≡ now ++ f (view x)
    → next ≡ before ++ flat_map f (map view (take (i + 1) xs))
walked {A} {B} {C} view f xs i x before now next h is so_far more =
    let done = map view (take i xs) in
    let longer : map view (take (i + 1) xs) ≡ done ++ (view x ∷ []) =
    ap (map view) (take_more xs i x h ∙ ap (λ (y : A). take i xs ++ (y ∷ [])) (sym is))
    ∙ map-append view (take i xs) (x ∷ []) in
    more
    ∙ (ap (λ (l : List C). l ++ f (view x)) so_far
    ∙ (append_assoc before (flat_map f done) (f (view x))
    ∙ ap (λ (l : List C). before ++ l)
    (ap (λ (l : List C). flat_map f done ++ l) (sym (append-nil (f (view x))))
    ∙ (sym (flat_map-append f done (view x ∷ [])) ∙ ap (flat_map f) (sym longer)))))

-- an attribute of a role that asks for one thing
pub one_deed : {T E : Type 0} (scope : Scope) (names : Names) (class : Class) (node : ℕ) (given : Bool) (a : Attr) (role : Role)
    (name : List ℕ) (found : Role) (deed : Deed) (place : Position) (old new : List Act) (result : Result T E) → name ≡ a.name
    → found ≡ role_of name → found ≡ role → deed ∷ [] ≡ deeds_by scope names class node given a role
    → OnOk result (new ≡ old ++ deed_at place deed)
    → OnOk result (new ≡ old ++ acts_at place (attribute_deeds scope names class node given a))
unfolding attribute_deeds
one_deed scope names class node given a role name found deed place old new result named told is asked pushed =
    let same : role_of a.name ≡ role = ap role_of (sym named) ∙ (sym told ∙ is) in
    subst (λ (l : List Deed). OnOk result (new ≡ old ++ acts_at place l))
    (asked ∙ sym (ap (deeds_by scope names class node given a) same)) pushed
