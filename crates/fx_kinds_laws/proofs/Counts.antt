-- How many properties a class has.
-- Cited by the laws.
use Rattle.std.proofs.Common.{◌≡◌, ℕ, ◌≤◌, Bool, true, false, not, ◌||◌, ◌==◌, [], length, refl, ap, ◌∙◌, arith}
use Rattle.std.specs.Prelude.{nat_le}
use Rattle.std.proofs.lemmas.Bool.Decides.{nat_tests}
use Rattle.std.proofs.lemmas.List.{length-map, nil_from_length}
use Rattle.fx_kinds.specs.declared.classes.Class.{Class}
use Rattle.fx_kinds.specs.Classes.{is_control, is_node}
use Rattle.fx_kinds.specs.Properties.{listed, properties_of, rows_of, rows}
use Rattle.fx_kinds.proofs.ClassLemmas.{by_class}

count : Class → ℕ
count class = length (rows_of class)

counted : (class : Class) → length (properties_of class) ≡ count class
unfolding count
counted class = length-map (rows_of class) listed

-- for classes that pass a test alone
told : (a b : Bool) → (not a || b) ≡ true → a ≡ true → b ≡ true
told true b h e = h
told false b h e = absurd (cc)

least : (n m : ℕ) → nat_le n m ≡ true → n ≤ m
least n m e = grind (arith, nat_tests, e)

equal : (n m : ℕ) → (n == m) ≡ true → n ≡ m
equal n m e = grind (arith, nat_tests, e)

pub most : (class : Class) → length (properties_of class) ≤ 20
unfolding rows_of rows count
most class = let few = least (count class) 20 (by_class (λ k. nat_le (count k) 20) refl class) in let all = counted class in omega arith

pub control : (class : Class) → is_control class ≡ true → length (properties_of class) ≡ 20
unfolding rows_of rows count
control class is =
    counted class
    ∙ equal (count class) 20 (told (is_control class) (count class == 20) (by_class (λ k. not (is_control k) || (count k == 20)) refl class) is)

pub node : (class : Class) → is_node class ≡ true → 15 ≤ length (properties_of class)
unfolding rows_of rows count
node class is =
    let some = least 15 (count class) (told (is_node class) (nat_le 15 (count class)) (by_class (λ k. not (is_node k) || nat_le 15 (count k)) refl class) is) in
    let all = counted class in
    omega arith

pub other : (class : Class) → is_node class ≡ false → properties_of class ≡ []
unfolding rows_of rows count
other class is =
    nil_from_length (properties_of class)
    (counted class ∙ equal (count class) 0 (told (not (is_node class)) (count class == 0) (by_class (λ k. not (not (is_node k)) || (count k == 0)) refl class) (ap not is)))
