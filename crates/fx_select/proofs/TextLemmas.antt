-- Texts of different lengths are not one.
use Rattle.std.proofs.Common.{◌≡◌, ℕ, suc, Bool, true, false, ◌&&◌, List, [], ◌∷◌, length, eqb, refl, ◌∙◌, ap}
use Rattle.std.specs.Str.{bytes_eq}

and-false : (b : Bool) → (b && false) ≡ false
and-false false = refl
and-false true = refl

pub unlike : (xs ys : List ℕ) → (length xs ≡ length ys → ⊥) → bytes_eq xs ys ≡ false
unlike [] [] differ = absurd (differ refl)
unlike [] (y ∷ ys) differ = refl
unlike (x ∷ xs) [] differ = refl
unlike (x ∷ xs) (y ∷ ys) differ =
    ap (λ (b : Bool). eqb x y && b) (unlike xs ys (λ e. differ (ap suc e)))
    ∙ and-false (eqb x y)
