-- Tables of rows with names: what is found in them, by checks that are computed over the whole table.
use Rattle.std.proofs.Common.{◌≡◌, ℕ, zero, suc, ◌+◌, ◌<◌, inl, inr, Bool, true, false, cond, not, ◌&&◌, ◌||◌, ◌==◌, List, [], ◌∷◌, length, map, Option, Some, None, refl, sym, ap, ◌∙◌, subst, arith}
use Rattle.std.specs.Prelude.{slice_get}
use Rattle.std.specs.List.{position, prefix_len, find, list_all, list_any, Contains}
use Rattle.std.specs.Option.{option_map}
use Rattle.std.specs.Str.{bytes_eq}
use Rattle.std.proofs.lemmas.Bool.{and_parts}
use Rattle.std.proofs.lemmas.Bool.Decides.{eqb_tells}
use Rattle.std.proofs.lemmas.List.{length-map}
use Rattle.std.proofs.lemmas.List.Quantifiers.{position-Some}
use Rattle.std.proofs.lemmas.List.Sums.{AllPass-from_list_all}
use Rattle.std.proofs.lemmas.Option.{slice_get-map}
use Rattle.fx_text.proofs.FrontLemmas.{tells, or_parts}

-- searches in a list of views

mapped_len : {A B : Type 0} (f : A → B) (p : B → Bool) (xs : List A) → prefix_len p (map f xs) ≡ prefix_len (λ x. p (f x)) xs
mapped_len f p [] = refl
mapped_len f p (x ∷ xs) = ap (λ n. cond (p (f x)) (1 + n) 0) (mapped_len f p xs)

pub position-map : {A B : Type 0} (f : A → B) (p : B → Bool) (xs : List A) → position (λ x. p (f x)) xs ≡ position p (map f xs)
position-map f p xs = rw (mapped_len f (λ y. not (p y)) xs, length-map xs f) refl

pub position_small : {A : Type 0} (p : A → Bool) (xs : List A) (d : A) (place : ℕ) → position p xs ≡ Some place → place < length xs
position_small p xs d place e = (position-Some p xs place d e).0

pub find-map : {A B : Type 0} (f : A → B) (p : B → Bool) (xs : List A) → option_map f (find (λ x. p (f x)) xs) ≡ find p (map f xs)
find-map f p [] = refl
find-map f p (x ∷ xs) = by_test (p (f x)) (find-map f p xs)
  where
    by_test : (b : Bool) → option_map f (find (λ x. p (f x)) xs) ≡ find p (map f xs) → option_map f (cond b (Some x) (find (λ x. p (f x)) xs)) ≡ cond b (Some (f x)) (find p (map f xs))
    by_test true ih = refl
    by_test false ih = ih

pub any-map : {A B : Type 0} (f : A → B) (p : B → Bool) (xs : List A) → list_any (λ x. p (f x)) xs ≡ list_any p (map f xs)
any-map f p [] = refl
any-map f p (x ∷ xs) = ap (λ b. p (f x) || b) (any-map f p xs)

-- what is found is in the table, and passes

pub find_sound : {A : Type 0} (p : A → Bool) (xs : List A) (x : A) → find p xs ≡ Some x → Contains xs x × (p x ≡ true)
find_sound p [] x e = absurd (cc)
find_sound p (y ∷ ys) x e = elim (tells (p y)) [
  | inl t ↦ let f = rw t at e in
      let same : y ≡ x = cc in
      ((zero, omega arith, same), subst (λ z. p z ≡ true) same t)
  | inr t ↦ let ih = find_sound p ys x (rw t at e) in
      let within = ih.0.1 in
      ((suc ih.0.0, omega arith, ih.0.2), ih.1)
]

pub any_sound : {A : Type 0} (p : A → Bool) (xs : List A) → list_any p xs ≡ true → (x : A) × Contains xs x × (p x ≡ true)
any_sound p [] e = absurd (cc)
any_sound p (y ∷ ys) e = elim (or_parts (p y) (list_any p ys) e) [
  | inl t ↦ (y, (zero, omega arith, refl), t)
  | inr t ↦ let ih = any_sound p ys t in
      let within = ih.1.1 in
      (ih.0, (suc ih.1.0, omega arith, ih.1.2), ih.2)
]

-- what all rows pass, each row passes
pub row_passes : {A : Type 0} (p : A → Bool) (xs : List A) (x : A) → list_all p xs ≡ true → Contains xs x → p x ≡ true
row_passes p xs x all c = sym (ap p c.2) ∙ AllPass-from_list_all p xs all c.0 x c.1

-- each row is the first of its name

abbrev pub is_place : Option ℕ → ℕ → Bool
is_place None at = false
is_place (Some place) at = place == at

pub place_is : (o : Option ℕ) (at : ℕ) → is_place o at ≡ true → o ≡ Some at
place_is None at e = absurd (cc)
place_is (Some place) at e = elim (eqb_tells place at) [ inl t ↦ ap (λ n. Some n) t.1 | inr t ↦ absurd (cc) ]

-- these rows, counted from a place on, pass a test that knows their places
abbrev pub all_at : {A : Type 0} → (ℕ → A → Bool) → ℕ → List A → Bool
all_at test at [] = true
all_at test at (x ∷ xs) = test at x && all_at test (1 + at) xs

pub passes_at : {A : Type 0} (test : ℕ → A → Bool) (at : ℕ) (xs : List A) (i : ℕ) (x : A) → all_at test at xs ≡ true → slice_get xs i ≡ Some x → test (at + i) x ≡ true
passes_at test at [] i x e f = absurd (cc)
passes_at test at (y ∷ ys) zero x e f =
    let same : y ≡ x = cc in
    let sum : at ≡ at + zero = omega arith in
    subst (λ z. test (at + zero) z ≡ true) same (subst (λ n. test n y ≡ true) sum (and_parts (test at y) (all_at test (1 + at) ys) e).0)
passes_at test at (y ∷ ys) (suc i) x e f =
    let sum : 1 + at + i ≡ at + suc i = omega arith in
    subst (λ n. test n x ≡ true) sum (passes_at test (1 + at) ys i x (and_parts (test at y) (all_at test (1 + at) ys) e).1 f)

abbrev pub is_first : List (List ℕ) → ℕ → List ℕ → Bool
is_first names at name = is_place (position (λ other. bytes_eq other name) names) at

abbrev pub all_first : List (List ℕ) → Bool
all_first names = all_at (is_first names) 0 names

pub first_of_name : (names : List (List ℕ)) (i : ℕ) (name : List ℕ) → all_first names ≡ true → slice_get names i ≡ Some name → position (λ other. bytes_eq other name) names ≡ Some i
first_of_name names i name e f =
    let sum : 0 + i ≡ i = omega arith in
    place_is (position (λ other. bytes_eq other name) names) i (subst (λ n. is_first names n name ≡ true) sum (passes_at (is_first names) 0 names i name e f))

pub row_found : {A : Type 0} (name_of : A → List ℕ) (table : List A) (place : ℕ) (row : A) → all_first (map name_of table) ≡ true → slice_get table place ≡ Some row → position (λ other. bytes_eq (name_of other) (name_of row)) table ≡ Some place
row_found name_of table place row e f =
    position-map name_of (λ other. bytes_eq other (name_of row)) table
    ∙ first_of_name (map name_of table) place (name_of row) e (slice_get-map name_of table place ∙ ap (option_map name_of) f)
