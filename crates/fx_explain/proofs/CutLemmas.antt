-- One that is below the winner is less in the first part in which they differ.
use Rattle.std.proofs.Common.{◌≡◌, ◌⊎◌, ◌<◌, ℕ, zero, suc, Bool, true, false, cond, ◌&&◌, ◌||◌, ltb, eqb, List, [], ◌∷◌, length, take, drop, Option, Some, None, refl, sym, ap, ◌∙◌, subst, inl, inr, arith}
use Rattle.std.specs.Prelude.{slice_get, unwrap_or}
use Rattle.std.specs.List.{find}
use Rattle.std.proofs.lemmas.Bool.{cases_Bool, ltb-true, lt-ltb, eqb-true, eq-eqb}
use Rattle.std.proofs.lemmas.List.{drop_all}
use Rattle.fx_css_types.specs.declared.sheets.Candidate.{Candidate}
use Rattle.fx_css_types.specs.declared.sheets.SheetOrigin.{SheetOrigin}
use Rattle.fx_css_types.specs.declared.sheets.SheetOrigin.TheVariants.{Agent, Scene, Parent, Inline}
use Rattle.fx_cascade.specs.declared.sources.Source.{Source}
use Rattle.fx_cascade.specs.declared.sources.Source.TheVariants.{Code, Declared}
use Rattle.fx_cascade.specs.Ranks.{code_key, is_below, key, matched_key, origin_rank, precedes}
use Rattle.fx_cascade.proofs.KeyLemmas.{key_long, precedes-same}
use Rattle.fx_explain.specs.declared.cuts.Cut.{Cut}
use Rattle.fx_explain.specs.declared.cuts.Cut.TheVariants.{Origin, Specificity, Sheet, Rule, Place}
use Rattle.fx_explain.specs.Cuts.{IsCut, IsFirst, cut_of, cuts, is_bound, is_less_in, part, part_of}

-- the first of two lists is less in its first numbers, or these are the same and it is less in the others
Splits : ℕ → List ℕ → List ℕ → Type 0
Splits n xs ys =
    (precedes (take n xs) (take n ys) ≡ true)
    ⊎ ((take n xs ≡ take n ys) × (precedes (drop n xs) (drop n ys) ≡ true))

first_number : (x y : ℕ) (xs ys : List ℕ) → precedes (x ∷ xs) (y ∷ ys) ≡ true
    → (x < y) ⊎ ((x ≡ y) × (precedes xs ys ≡ true))
first_number x y xs ys p = elim (cases_Bool (ltb x y)) [
  | inl less ↦ inl (ltb-true x y less)
  | inr more ↦
      let rest : (eqb x y && precedes xs ys) ≡ true =
      sym (ap (λ (t : Bool). t || (eqb x y && precedes xs ys)) more) ∙ p in
      elim (cases_Bool (eqb x y)) [
        | inl same ↦ inr (eqb-true x y same, sym (ap (λ (t : Bool). t && precedes xs ys) same) ∙ rest)
        | inr other ↦
            absurd (let h : false ≡ true = sym (ap (λ (t : Bool). t && precedes xs ys) other) ∙ rest in cc)
      ]
]

less_first : (x y : ℕ) (xs ys : List ℕ) → x < y → precedes (x ∷ xs) (y ∷ ys) ≡ true
less_first x y xs ys less = ap (λ (t : Bool). t || (eqb x y && precedes xs ys)) (lt-ltb x y less)

same_first : (x y : ℕ) (xs ys : List ℕ) → x ≡ y → precedes xs ys ≡ true → precedes (x ∷ xs) (y ∷ ys) ≡ true
same_first x y xs ys same less = elim (cases_Bool (ltb x y)) [
  | inl first ↦ ap (λ (t : Bool). t || (eqb x y && precedes xs ys)) first
  | inr none ↦
      ap (λ (t : Bool). t || (eqb x y && precedes xs ys)) none
      ∙ ap (λ (t : Bool). t && precedes xs ys) (eq-eqb x y same) ∙ less
]

splits : (n : ℕ) (xs ys : List ℕ) → precedes xs ys ≡ true → Splits n xs ys
unfolding Splits
splits zero xs ys p = inr (refl, p)
splits (suc n) [] ys p = absurd (cc)
splits (suc n) (x ∷ xs) [] p = absurd (cc)
splits (suc n) (x ∷ xs) (y ∷ ys) p = elim (first_number x y xs ys p) [
  | inl less ↦ inl (less_first x y (take n xs) (take n ys) less)
  | inr same ↦ elim (splits n xs ys same.1) [
    | inl less ↦ inl (same_first x y (take n xs) (take n ys) same.0 less)
    | inr rest ↦
        inr (ap (λ (h : ℕ). h ∷ take n xs) same.0 ∙ ap (λ (t : List ℕ). y ∷ t) rest.0, rest.1)
  ]
]

drop_next : (n : ℕ) (xs : List ℕ) → drop 1 (drop n xs) ≡ drop (suc n) xs
drop_next zero xs = refl
drop_next (suc n) [] = refl
drop_next (suc n) (x ∷ xs) = drop_next n xs

drop_five : (xs : List ℕ) → drop 3 (drop 2 xs) ≡ drop 5 xs
drop_five [] = refl
drop_five (x ∷ []) = refl
drop_five (x ∷ y ∷ xs) = refl

-- one list precedes another behind so many numbers
Precedes : ℕ → List ℕ → List ℕ → Type 0
Precedes n xs ys = precedes (drop n xs) (drop n ys) ≡ true

to_next : (n : ℕ) (xs ys : List ℕ) → precedes (drop 1 (drop n xs)) (drop 1 (drop n ys)) ≡ true → Precedes (suc n) xs ys
unfolding Precedes
to_next n xs ys p =
    subst (λ (l : List ℕ). precedes l (drop (suc n) ys) ≡ true) (drop_next n xs)
    (subst (λ (l : List ℕ). precedes (drop 1 (drop n xs)) l ≡ true) (drop_next n ys) p)

to_five : (xs ys : List ℕ) → precedes (drop 3 (drop 2 xs)) (drop 3 (drop 2 ys)) ≡ true → Precedes 5 xs ys
unfolding Precedes
to_five xs ys p =
    subst (λ (l : List ℕ). precedes l (drop 5 ys) ≡ true) (drop_five xs)
    (subst (λ (l : List ℕ). precedes (drop 3 (drop 2 xs)) l ≡ true) (drop_five ys) p)

none_left : (xs ys : List ℕ) → length xs ≡ 8 → Precedes 8 xs ys → ⊥
unfolding Precedes
none_left xs ys long p =
    let h : false ≡ true =
    sym (ap (λ (l : List ℕ). precedes l (drop 8 ys)) (drop_all 8 xs (omega (arith, long)))) ∙ p in
    cc

-- in one of these a first list is less, and in all before it both are the same
Differs : (Cut → Type 0) → (Cut → Type 0) → List Cut → Type 0
Differs Less Same [] = ⊥
Differs Less Same (first ∷ rest) = Less first ⊎ (Same first × Differs Less Same rest)

LessIn : Bool → Bool → List ℕ → List ℕ → Cut → Type 0
LessIn b c xs ys cut = precedes (part_of cut b xs) (part_of cut c ys) ≡ true

SameIn : Bool → Bool → List ℕ → List ℕ → Cut → Type 0
SameIn b c xs ys cut = part_of cut b xs ≡ part_of cut c ys

from_place : (b c : Bool) (xs ys : List ℕ) → length xs ≡ 8 → Precedes 7 xs ys
    → Differs (LessIn b c xs ys) (SameIn b c xs ys) (Place ∷ [])
unfolding Differs LessIn SameIn Precedes Splits
from_place b c xs ys long p = elim (splits 1 (drop 7 xs) (drop 7 ys) p) [
  | inl less ↦ inl less
  | inr rest ↦ absurd (none_left xs ys long (to_next 7 xs ys rest.1))
]

from_rule : (b c : Bool) (xs ys : List ℕ) → length xs ≡ 8 → Precedes 6 xs ys
    → Differs (LessIn b c xs ys) (SameIn b c xs ys) (Rule ∷ Place ∷ [])
unfolding Differs LessIn SameIn Precedes Splits
from_rule b c xs ys long p = elim (splits 1 (drop 6 xs) (drop 6 ys) p) [
  | inl less ↦ inl less
  | inr rest ↦ inr (rest.0, from_place b c xs ys long (to_next 6 xs ys rest.1))
]

from_sheet : (b c : Bool) (xs ys : List ℕ) → length xs ≡ 8 → Precedes 5 xs ys
    → Differs (LessIn b c xs ys) (SameIn b c xs ys) (Sheet ∷ Rule ∷ Place ∷ [])
unfolding Differs LessIn SameIn Precedes Splits
from_sheet b c xs ys long p = elim (splits 1 (drop 5 xs) (drop 5 ys) p) [
  | inl less ↦ inl less
  | inr rest ↦ inr (rest.0, from_rule b c xs ys long (to_next 5 xs ys rest.1))
]

from_specificity : (b c : Bool) (xs ys : List ℕ) → length xs ≡ 8
    → precedes (drop 2 xs) (drop 2 ys) ≡ true
    → Differs (LessIn b c xs ys) (SameIn b c xs ys) (Specificity ∷ Sheet ∷ Rule ∷ Place ∷ [])
unfolding Differs LessIn SameIn Splits
from_specificity b c xs ys long p = elim (splits 3 (drop 2 xs) (drop 2 ys) p) [
  | inl less ↦ inl less
  | inr rest ↦ inr (rest.0, from_sheet b c xs ys long (to_five xs ys rest.1))
]

from_origin : (b c : Bool) (xs ys : List ℕ) → length xs ≡ 8 → precedes xs ys ≡ true
    → Differs (LessIn b c xs ys) (SameIn b c xs ys) (Origin ∷ Specificity ∷ Sheet ∷ Rule ∷ Place ∷ [])
unfolding Differs LessIn SameIn Splits
from_origin b c xs ys long p = elim (splits 2 xs ys p) [
  | inl less ↦ inl less
  | inr rest ↦ inr (rest.0, from_specificity b c xs ys long rest.1)
]

-- nothing is above a bound value

below_bound_at : (o : SheetOrigin) (rest : List ℕ) → precedes (code_key true) ((origin_rank o).0 ∷ rest) ≡ false
below_bound_at Agent rest = refl
below_bound_at Scene rest = refl
below_bound_at (Parent depth) rest = refl
below_bound_at Inline rest = refl

below_bound_match : (o : Option Candidate) (place : ℕ) → precedes (code_key true) (matched_key o place) ≡ false
below_bound_match None place = refl
below_bound_match (Some c) place =
    below_bound_at c.origin
    ((origin_rank c.origin).1 ∷ c.specificity.0 ∷ c.specificity.1 ∷ c.specificity.2 ∷ c.sheet ∷ c.rule ∷ place ∷ [])

below_bound : (matched : List Candidate) (source : Source) → is_below matched (Code true) source ≡ false
below_bound matched (Code true) = refl
below_bound matched (Code false) = refl
below_bound matched (Declared at place) = below_bound_match (slice_get matched at) place

bound_below : (matched : List Candidate) (loser winner : Source) → is_bound loser ≡ true
    → is_below matched loser winner ≡ true → ⊥
bound_below matched (Code true) winner e p = let h : false ≡ true = sym (below_bound matched winner) ∙ p in cc
bound_below matched (Code false) winner e p = cc
bound_below matched (Declared at place) winner e p = cc

from_bound : (matched : List Candidate) (winner loser : Source) → is_below matched loser winner ≡ true
    → Differs (LessIn (is_bound loser) (is_bound winner) (key matched loser) (key matched winner))
    (SameIn (is_bound loser) (is_bound winner) (key matched loser) (key matched winner)) cuts
unfolding Differs LessIn SameIn
from_bound matched winner loser p = elim (cases_Bool (is_bound loser)) [
  | inl bound ↦ absurd (bound_below matched loser winner bound p)
  | inr free ↦ elim (cases_Bool (is_bound winner)) [
    | inl above ↦
        inl (ap (λ (t : Bool). precedes (cond t 1 0 ∷ []) (cond (is_bound winner) 1 0 ∷ [])) free
        ∙ ap (λ (t : Bool). precedes (0 ∷ []) (cond t 1 0 ∷ [])) above)
    | inr too ↦
        inr (
          ap (λ (t : Bool). cond t 1 0 ∷ []) (free ∙ sym too),
          from_origin (is_bound loser) (is_bound winner) (key matched loser) (key matched winner)
              (key_long matched loser) p,
        )
  ]
]

-- the first in which it is less is found
found_first : (matched : List Candidate) (winner loser : Source) (cs : List Cut)
    → Differs (LessIn (is_bound loser) (is_bound winner) (key matched loser) (key matched winner))
    (SameIn (is_bound loser) (is_bound winner) (key matched loser) (key matched winner)) cs
    → IsFirst (λ c. is_less_in matched winner loser c ≡ true) (λ c. part matched loser c ≡ part matched winner c) cs
    (unwrap_or (find (is_less_in matched winner loser) cs) Place)
unfolding Differs LessIn SameIn
found_first matched winner loser [] d = d
found_first matched winner loser (c ∷ cs) (inl less) =
    inl (ap (λ (t : Bool). unwrap_or (cond t (Some c) (find (is_less_in matched winner loser) cs)) Place) less, less)
found_first matched winner loser (c ∷ cs) (inr rest) =
    let no : is_less_in matched winner loser c ≡ false =
    ap (λ (l : List ℕ). precedes l (part matched winner c)) rest.0 ∙ precedes-same (part matched winner c) in
    inr (
      rest.0,
      subst
          (λ (cut : Cut).
          IsFirst (λ c. is_less_in matched winner loser c ≡ true) (λ c. part matched loser c ≡ part matched winner c) cs cut)
          (sym (ap (λ (t : Bool). unwrap_or (cond t (Some c) (find (is_less_in matched winner loser) cs)) Place) no))
          (found_first matched winner loser cs rest.1),
    )

pub cut-first : (matched : List Candidate) (winner loser : Source) → is_below matched loser winner ≡ true
    → IsCut matched winner loser (cut_of matched winner loser)
unfolding cut_of
cut-first matched winner loser p = found_first matched winner loser cuts (from_bound matched winner loser p)
