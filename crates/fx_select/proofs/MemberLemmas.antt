-- Elements of lists that are made of others.
use Rattle.std.proofs.Common.{◌≡◌, ℕ, zero, suc, ◌+◌, ◌⊎◌, inl, inr, Bool, true, cond, List, [], ◌∷◌, ◌++◌, map, filter, Option, Some, None, refl, sym, ◌∙◌, ap, subst, arith}
use Rattle.std.specs.Prelude.{slice_get}
use Rattle.std.specs.List.{enumerate_from, filter_map, flat_map, list_any}
use Rattle.std.proofs.lemmas.Bool.{cases_Bool, false≢true}
use Rattle.fx_select.specs.Listing.{each}

unfoldable pub In : {X : Type 0} → X → List X → Type 0
In x [] = ⊥
In x (y ∷ ys) = (x ≡ y) ⊎ In x ys

pub in-left : {X : Type 0} (x : X) (some more : List X) → In x some → In x (some ++ more)
unfolding In
in-left x [] more among = absurd among
in-left x (y ∷ ys) more (inl is) = inl is
in-left x (y ∷ ys) more (inr further) = inr (in-left x ys more further)

pub in-right : {X : Type 0} (x : X) (some more : List X) → In x more → In x (some ++ more)
unfolding In
in-right x [] more among = among
in-right x (y ∷ ys) more among = inr (in-right x ys more among)

pub in-map : {X Y : Type 0} (f : X → Y) (x : X) (xs : List X) → In x xs → In (f x) (map f xs)
unfolding In
in-map f x [] among = absurd among
in-map f x (y ∷ ys) (inl is) = inl (ap f is)
in-map f x (y ∷ ys) (inr further) = inr (in-map f x ys further)

pub from-map : {X Y : Type 0} (f : X → Y) (y : Y) (xs : List X) → In y (map f xs) → (x : X) × In x xs × (y ≡ f x)
unfolding In
from-map f y [] among = absurd among
from-map f y (x ∷ xs) (inl is) = (x, inl refl, is)
from-map f y (x ∷ xs) (inr further) = let r = from-map f y xs further in (r.0, inr r.1, r.2)

pub in-filter : {X : Type 0} (p : X → Bool) (x : X) (xs : List X) → In x xs → p x ≡ true → In x (filter p xs)
unfolding In
in-filter p x [] among pass = absurd among
in-filter p x (y ∷ ys) (inl is) pass = let first : p y ≡ true = ap p (sym is) ∙ pass in rw first (inl is)
in-filter p x (y ∷ ys) (inr further) pass = elim (cases_Bool (p y)) [
  | inl passed ↦ rw passed (inr (in-filter p x ys further pass))
  | inr failed ↦ rw failed (in-filter p x ys further pass)
]

pub from-filter : {X : Type 0} (p : X → Bool) (x : X) (xs : List X) → In x (filter p xs) → In x xs × (p x ≡ true)
unfolding In
from-filter p x [] among = absurd among
from-filter {X} p x (y ∷ ys) among = elim (cases_Bool (p y)) [
  | inl passed ↦
      let kept : In x (y ∷ filter p ys) = subst (λ (b : Bool). In x (cond b (y ∷ filter p ys) (filter p ys))) passed among in
      elim kept [
        | inl is ↦ (inl is, ap p is ∙ passed)
        | inr further ↦ let r = from-filter p x ys further in (inr r.0, r.1)
      ]
  | inr failed ↦
      let r = from-filter p x ys (subst (λ (b : Bool). In x (cond b (y ∷ filter p ys) (filter p ys))) failed among) in (inr r.0, r.1)
]

option_cases : {A : Type 0} (o : Option A) → (o ≡ None) ⊎ ((x : A) × (o ≡ Some x))
option_cases None = inl refl
option_cases (Some x) = inr (x, refl)

pub in-filter_map : {X Y : Type 0} (f : X → Option Y) (x : X) (y : Y) (xs : List X) → In x xs → f x ≡ Some y → In y (filter_map f xs)
unfolding In
in-filter_map f x y [] among is = absurd among
in-filter_map f x y (z ∷ zs) (inl same) is = let first : f z ≡ Some y = ap f (sym same) ∙ is in rw first (inl refl)
in-filter_map f x y (z ∷ zs) (inr further) is = elim (option_cases (f z)) [
  | inl none ↦ rw none (in-filter_map f x y zs further is)
  | inr (w, some) ↦ rw some (inr (in-filter_map f x y zs further is))
]

pub from-filter_map : {X Y : Type 0} (f : X → Option Y) (y : Y) (xs : List X) → In y (filter_map f xs) → (x : X) × In x xs × (f x ≡ Some y)
unfolding In
from-filter_map f y [] among = absurd among
from-filter_map f y (z ∷ zs) among = elim (option_cases (f z)) [
  | inl none ↦ let r = from-filter_map f y zs (rw none at among) in (r.0, inr r.1, r.2)
  | inr (w, some) ↦ elim (rw some at among) [
    | inl is ↦ (z, inl refl, some ∙ ap (λ v. Some v) (sym is))
    | inr further ↦ let r = from-filter_map f y zs further in (r.0, inr r.1, r.2)
  ]
]

pub in-flat_map : {X Y : Type 0} (f : X → List Y) (x : X) (y : Y) (xs : List X) → In x xs → In y (f x) → In y (flat_map f xs)
unfolding In
in-flat_map f x y [] among inside = absurd among
in-flat_map {X} {Y} f x y (z ∷ zs) (inl is) inside = in-left y (f z) (flat_map f zs) (subst (λ (w : X). In y (f w)) is inside)
in-flat_map f x y (z ∷ zs) (inr further) inside = in-right y (f z) (flat_map f zs) (in-flat_map f x y zs further inside)

pub in-any : {X : Type 0} (p : X → Bool) (xs : List X) → list_any p xs ≡ true → (x : X) × In x xs × (p x ≡ true)
unfolding In
in-any p [] any = absurd (false≢true any)
in-any p (x ∷ xs) any = elim (cases_Bool (p x)) [
  | inl passed ↦ (x, inl refl, passed)
  | inr failed ↦ let r = in-any p xs (rw failed at any) in (r.0, inr r.1, r.2)
]

pub in-get : {X : Type 0} (x : X) (xs : List X) (i : ℕ) → slice_get xs i ≡ Some x → In x xs
unfolding In
in-get x [] i is = cc
in-get x (y ∷ ys) zero is = inl (cc)
in-get x (y ∷ ys) (suc i) is = inr (in-get x ys i is)

pub get-in : {X : Type 0} (x : X) (xs : List X) → In x xs → (i : ℕ) × (slice_get xs i ≡ Some x)
unfolding In
get-in x [] among = absurd among
get-in x (y ∷ ys) (inl is) = (0, ap (λ v. Some v) (sym is))
get-in x (y ∷ ys) (inr further) = let r = get-in x ys further in (suc r.0, r.1)

in-numbered : {X A : Type 0} (give : ℕ → X → List A) (n : ℕ) (xs : List X) (i : ℕ) (x : X) → slice_get xs i ≡ Some x
    → (a : A) → In a (give (n + i) x) → In a (flat_map (λ (e : ℕ × X). give e.0 e.1) (enumerate_from n xs))
in-numbered give n [] i x is a among = cc
in-numbered {X} {A} give n (y ∷ ys) zero x is a among =
    let all : List A = flat_map (λ (e : ℕ × X). give e.0 e.1) (enumerate_from (n + 1) ys) in
    let same : x ≡ y = cc in
    let number : n + 0 ≡ n = omega arith in
    let here : In a (give n y) = subst (λ (z : X). In a (give n z)) same (subst (λ (m : ℕ). In a (give m x)) number among) in
    in-left a (give n y) all here
in-numbered {X} {A} give n (y ∷ ys) (suc i) x is a among =
    let all : List A = flat_map (λ (e : ℕ × X). give e.0 e.1) (enumerate_from (n + 1) ys) in
    let number : n + suc i ≡ (n + 1) + i = omega arith in
    in-right a (give n y) all (in-numbered give (n + 1) ys i x is a (subst (λ (m : ℕ). In a (give m x)) number among))

pub in-each : {X A : Type 0} (give : ℕ → X → List A) (xs : List X) (i : ℕ) (x : X) → slice_get xs i ≡ Some x
    → (a : A) → In a (give i x) → In a (each give xs)
unfolding each
in-each give xs i x is a among =
    let number : i ≡ 0 + i = omega arith in
    in-numbered give 0 xs i x is a (subst (λ (m : ℕ). In a (give m x)) number among)

numbered-agree : {X A : Type 0} (f g : ℕ → X → List A) (n : ℕ) (xs : List X)
    → ((i : ℕ) (x : X) → slice_get xs i ≡ Some x → f (n + i) x ≡ g (n + i) x)
    → flat_map (λ (e : ℕ × X). f e.0 e.1) (enumerate_from n xs) ≡ flat_map (λ (e : ℕ × X). g e.0 e.1) (enumerate_from n xs)
numbered-agree f g n [] same = refl
numbered-agree {X} {A} f g n (y ∷ ys) same =
    let number : n + 0 ≡ n = omega arith in
    let first : f n y ≡ g n y = subst (λ (m : ℕ). f m y ≡ g m y) number (same 0 y refl) in
    let rest : flat_map (λ (e : ℕ × X). f e.0 e.1) (enumerate_from (n + 1) ys) ≡ flat_map (λ (e : ℕ × X). g e.0 e.1) (enumerate_from (n + 1) ys) =
    numbered-agree f g (n + 1) ys
    (λ i x is. let k : n + suc i ≡ (n + 1) + i = omega arith in subst (λ (m : ℕ). f m x ≡ g m x) k (same (suc i) x is)) in
    ap (λ (l : List A). l ++ flat_map (λ (e : ℕ × X). f e.0 e.1) (enumerate_from (n + 1) ys)) first
    ∙ ap (λ (l : List A). g n y ++ l) rest

-- what agrees at each element gives the same
pub each-agree : {X A : Type 0} (f g : ℕ → X → List A) (xs : List X)
    → ((i : ℕ) (x : X) → slice_get xs i ≡ Some x → f i x ≡ g i x) → each f xs ≡ each g xs
unfolding each
each-agree {X} f g xs same = numbered-agree f g 0 xs
    (λ i x is. let k : i ≡ 0 + i = omega arith in subst (λ (m : ℕ). f m x ≡ g m x) k (same i x is))
