-- The space of a file, found in the list of spaces and in the list of what is seen of them.
use Rattle.std.proofs.Common.{◌≡◌, ℕ, Bool, true, false, List, [], ◌∷◌, map, Option, Some, None, cond, refl, sym, ◌∙◌, ap, Bor}
use Rattle.std.specs.List.{find}
use Rattle.std.specs.Option.{option_map}
use Rattle.fx_scene_things.specs.Known.{known, space_view}
use Rattle.fx_scene_things.specs.Names.{Names}
use Rattle.fx_scene_things.specs.Spaces.{Space as PlainSpace, is_of, names_in}
use Rattle.fx_scene_things.specs.declared.spaces.Space.{Space}

pub find-map : {A B : Type 0} (test : B → Bool) (f : A → B) (xs : List A)
    → find test (map f xs) ≡ option_map f (find (λ x. test (f x)) xs)
find-map test f [] = refl
find-map {A} {B} test f (x ∷ xs) = either (test (f x)) (find test (map f xs)) (find (λ y. test (f y)) xs) (find-map test f xs)
  where
    either : (b : Bool) (here : Option B) (there : Option A) → here ≡ option_map f there → cond b (Some (f x)) here ≡ option_map f (cond b (Some x) there)
    either true here there e = refl
    either false here there e = e

abbrev names_of : Option PlainSpace → Option Names
names_of found = option_map (λ (space : PlainSpace). space.names) found

abbrev Found : Type 0
Found = Option (Bor Space)

by_found : (spaces : List Space) (file : ℕ) (found : Found)
    → option_map (λ (space : Bor Space). space.now) found ≡ find (λ (space : Space). is_of file (space_view space)) spaces
    → names_in (map space_view spaces) file ≡ names_of (option_map (λ (space : Bor Space). space_view space.now) found)
by_found spaces file found e =
    ap names_of (find-map (is_of file) space_view spaces ∙ (ap (option_map space_view) (sym e) ∙ joined found))
  where
    joined : (o : Found) → option_map space_view (option_map (λ (space : Bor Space). space.now) o) ≡ option_map (λ (space : Bor Space). space_view space.now) o
    joined None = refl
    joined (Some space) = refl

pub space_found : (spaces : List Space) (file : ℕ) (found : Found) (space : Bor Space) → found ≡ Some space
    → option_map (λ (s : Bor Space). s.now) found ≡ find (λ (s : Space). is_of file (space_view s)) spaces
    → Some (known space.now.names) ≡ names_in (map space_view spaces) file
space_found spaces file found space is e =
    sym (by_found spaces file found e ∙ ap (λ (o : Found). names_of (option_map (λ (s : Bor Space). space_view s.now) o)) is)

pub no_space : (spaces : List Space) (file : ℕ) (found : Found) → found ≡ None
    → option_map (λ (s : Bor Space). s.now) found ≡ find (λ (s : Space). is_of file (space_view s)) spaces
    → None ≡ names_in (map space_view spaces) file
no_space spaces file found is e =
    sym (by_found spaces file found e ∙ ap (λ (o : Found). names_of (option_map (λ (s : Bor Space). space_view s.now) o)) is)
