-- Old items that stand where the new ones go.
use Rattle.std.proofs.Common.{◌≡◌, ◌∙◌, ◌+◌, ℕ, zero, suc, List, [], ◌∷◌, ◌++◌, Some, add-one, ap, arith, length, refl, take}
use Rattle.std.specs.Prelude.{slice_get}

some_is : {A : Type 0} (x y : A) → Some x ≡ Some y → x ≡ y
some_is x y is = cc

one_further : {A : Type 0} (xs : List A) (place : ℕ) (x : A) → slice_get xs place ≡ Some x
    → take (suc place) xs ≡ take place xs ++ x ∷ []
one_further [] place x is = absurd (cc)
one_further (y ∷ ys) zero x is = ap (λ z. z ∷ []) (some_is y x is)
one_further (y ∷ ys) (suc place) x is = ap (λ zs. y ∷ zs) (one_further ys place x is)

-- the item that stands next is the last one of one more
pub one_more : {A : Type 0} (xs : List A) (place : ℕ) (x : A) → slice_get xs place ≡ Some x
    → take (place + 1) xs ≡ take place xs ++ x ∷ []
one_more xs place x is = ap (λ n. take n xs) (add-one place) ∙ one_further xs place x is

pub both_empty : {A : Type 0} (xs ys : List A) → length xs ≡ 0 → length ys ≡ 0 → xs ≡ ys
both_empty [] [] none either = refl
both_empty [] (y ∷ ys) none either = absurd (omega (arith, either))
both_empty (x ∷ xs) ys none either = absurd (omega (arith, none))
