-- The order of strings and the grammar's test for one name agree; a set with one name more.
use Rattle.std.proofs.Common.{◌≡◌, ℕ, Ordering, String, Global, Bool, true, false, cond, ◌||◌, ◌&&◌, List, [], ◌∷◌, ◌++◌, refl, sym, ◌∙◌, ap, arith}
use Rattle.std.proofs.lemmas.Cmp.{same_from_slice_cmp}
use Rattle.std.proofs.lemmas.Bool.Decides.{nat_tests}
use Rattle.std.specs.Cmp.Lexicographic.{slice_cmp}
use Rattle.std.specs.Ordering.{nat_cmp, is_eq}
use Rattle.std.specs.String.{string_bytes, string_cmp}
use lib.Dec.{eqb}
use Rattle.fx_doc_grammar.specs.Grammar.{is_among}
use Rattle.std.specs.Str.{bytes_eq}

eq_same : (xs ys : List ℕ) (o : Ordering) → o ≡ slice_cmp nat_cmp xs ys → is_eq o ≡ bytes_eq xs ys
eq_same = same_from_slice_cmp nat_cmp is_eq bytes_eq refl (λ _ _. refl) (λ _ _. refl) (λ x y xs ys o h. grind (arith, nat_tests))

pub cmp_same : (a b : String Global) → is_eq (string_cmp a b) ≡ bytes_eq (string_bytes a) (string_bytes b)
cmp_same a b = eq_same (string_bytes a) (string_bytes b) (string_cmp a b) refl

eqb_turns : (a b : ℕ) → eqb a b ≡ eqb b a
eqb_turns a b = grind (arith, nat_tests)

same_turns : (a b : List ℕ) → bytes_eq a b ≡ bytes_eq b a
same_turns [] [] = refl
same_turns [] (y ∷ b) = refl
same_turns (x ∷ a) [] = refl
same_turns (x ∷ a) (y ∷ b) = ap (λ z. z && bytes_eq a b) (eqb_turns x y) ∙ ap (λ z. eqb y x && z) (same_turns a b)

or_none : (b : Bool) → (b || false) ≡ b
or_none true = refl
or_none false = refl

or_turns : (a b : Bool) → (a || b) ≡ cond b true a
or_turns true true = refl
or_turns true false = refl
or_turns false true = refl
or_turns false false = refl

or_same : (a b c : Bool) → (a || (b || c)) ≡ ((a || b) || c)
or_same true b c = refl
or_same false b c = refl

among_more : (k n : List ℕ) (names : List (List ℕ)) → is_among k (names ++ (n ∷ [])) ≡ (is_among k names || bytes_eq k n)
among_more k n [] = or_none (bytes_eq k n)
among_more k n (x ∷ names) = ap (λ z. bytes_eq k x || z) (among_more k n names) ∙ or_same (bytes_eq k x) (is_among k names) (bytes_eq k n)

-- the test of a set with one name more
pub has_more : (k n : String Global) (names : List (List ℕ)) (old new : Bool) → old ≡ is_among (string_bytes k) names → new ≡ cond (is_eq (string_cmp n k)) true old → new ≡ is_among (string_bytes k) (names ++ (string_bytes n ∷ []))
has_more k n names old new e f =
    f ∙ (ap (λ z. cond z true old) (cmp_same n k ∙ same_turns (string_bytes n) (string_bytes k)) ∙ (ap (λ z. cond (bytes_eq (string_bytes k) (string_bytes n)) true z) e
    ∙ (sym (or_turns (is_among (string_bytes k) names) (bytes_eq (string_bytes k) (string_bytes n))) ∙ sym (among_more (string_bytes k) (string_bytes n) names))))
