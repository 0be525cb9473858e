-- Finding in a list, and then seeing what is found.
use Rattle.std.proofs.Common.{◌≡◌, Bool, true, false, List, [], ◌∷◌, map, Option, Some, None, Bor, cond, refl}
use Rattle.std.specs.List.{find}
use Rattle.std.specs.Option.{option_map}

pub find-map : {A B : Type 0} (test : B → Bool) (f : A → B) (xs : List A)
    → find test (map f xs) ≡ option_map f (find (λ x. test (f x)) xs)
find-map test f [] = refl
find-map {A} {B} test f (x ∷ xs) = either (test (f x)) (find test (map f xs)) (find (λ y. test (f y)) xs) (find-map test f xs)
  where
    either : (b : Bool) (here : Option B) (there : Option A) → here ≡ option_map f there → cond b (Some (f x)) here ≡ option_map f (cond b (Some x) there)
    either true here there e = refl
    either false here there e = e

pub option_map-now : {A B : Type 0} (f : A → B) (o : Option (Bor A))
    → option_map (λ (a : Bor A). f a.now) o ≡ option_map f (option_map (λ (a : Bor A). a.now) o)
option_map-now f None = refl
option_map-now f (Some a) = refl
