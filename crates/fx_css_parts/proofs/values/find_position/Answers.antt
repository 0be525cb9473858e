use Rattle.std.proofs.Common.{◌≡◌, ◌+◌, Bool, cond, not, List, [], ◌∷◌, map, ℕ, refl, ap, ◌∙◌}
use Rattle.std.specs.Borrow.{Bor}
use Rattle.std.specs.List.{position, prefix_len}
use Rattle.std.proofs.lemmas.List.{length-map}
use Rattle.std.specs.Str.{bytes_eq}
use Rattle.fx_css_parts.proofs.values.find_position.Goals as goal

mapped_len : {A B : Type 0} (f : A → B) (p : B → Bool) (xs : List A) → prefix_len p (map f xs) ≡ prefix_len (λ x. p (f x)) xs
mapped_len f p [] = refl
mapped_len f p (x ∷ xs) = ap (λ n. cond (p (f x)) (1 + n) 0) (mapped_len f p xs)

position-map : {A B : Type 0} (f : A → B) (p : B → Bool) (xs : List A) → position (λ x. p (f x)) xs ≡ position p (map f xs)
position-map f p xs = rw (mapped_len f (λ y. not (p y)) xs, length-map xs f) refl

pub returns : goal.returns
returns c = c.find_place.ensures ∙ position-map (λ (constant : Bor (List ℕ)). constant.now) (λ constant. bytes_eq constant c.args.text.now) c.args.constants.now
