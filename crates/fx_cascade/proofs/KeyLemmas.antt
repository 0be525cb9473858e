-- Keys of one length are ordered: of two that differ, one precedes the other.
use Rattle.std.proofs.Common.{◌≡◌, ◌<◌, ◌≤◌, ◌==◌, ℕ, zero, suc, Bool, true, false, cond, ◌&&◌, ◌||◌, ltb, eqb, List, [], ◌∷◌, length, Option, Some, None, refl, sym, ap, ◌∙◌, inl, inr, arith, eq-eqb}
use Rattle.std.specs.Prelude.{slice_get}
use Rattle.std.proofs.lemmas.Bool.{cases_Bool, or_parts, ltb-false, ltb-true, eqb-true, eqb-false, ne_eqb, le-ltb}
use Rattle.fx_css_types.specs.declared.sheets.Candidate.{Candidate}
use Rattle.fx_cascade.specs.declared.sources.Source.{Source}
use Rattle.fx_cascade.specs.declared.sources.Source.TheVariants.{Code, Declared}
use Rattle.fx_cascade.specs.Ranks.{key, matched_key, precedes}

-- where one list doesn't precede another, and that not a third, the first doesn't precede the third
pub precedes-trans : (n : ℕ) (xs ys zs : List ℕ) → length xs ≡ n → length ys ≡ n → length zs ≡ n
    → precedes ys xs ≡ false → precedes zs ys ≡ false → precedes zs xs ≡ false
precedes-trans n [] [] [] e f g p q = refl
precedes-trans n [] [] (z ∷ zs) e f g p q = absurd (omega (arith, e, f, g))
precedes-trans n [] (y ∷ ys) zs e f g p q = absurd (omega (arith, e, f, g))
precedes-trans n (x ∷ xs) [] zs e f g p q = absurd (omega (arith, e, f, g))
precedes-trans n (x ∷ xs) (y ∷ ys) [] e f g p q = absurd (omega (arith, e, f, g))
precedes-trans zero (x ∷ xs) (y ∷ ys) (z ∷ zs) e f g p q = absurd (omega (arith, e))
precedes-trans (suc n) (x ∷ xs) (y ∷ ys) (z ∷ zs) e f g p q =
    let a = or_parts (ltb y x) (eqb y x && precedes ys xs) p in
    let b = or_parts (ltb z y) (eqb z y && precedes zs ys) q in
    let le : x ≤ y = ltb-false y x a.0 in
    let le2 : y ≤ z = ltb-false z y b.0 in
    ap (λ (t : Bool). t || (eqb z x && precedes zs xs)) (le-ltb z x (omega arith))
    ∙ elim (cases_Bool (eqb z x)) [
      | inl same ↦
          let zx : z ≡ x = eqb-true z x same in
          let yx : y ≡ x = omega arith in
          let zy : z ≡ y = omega arith in
          let first : precedes ys xs ≡ false = sym (ap (λ (t : Bool). t && precedes ys xs) (eq-eqb y x yx)) ∙ a.1 in
          let second : precedes zs ys ≡ false = sym (ap (λ (t : Bool). t && precedes zs ys) (eq-eqb z y zy)) ∙ b.1 in
          ap (λ (t : Bool). t && precedes zs xs) same
          ∙ precedes-trans n xs ys zs (omega (arith, e)) (omega (arith, f)) (omega (arith, g)) first second
      | inr other ↦ ap (λ (t : Bool). t && precedes zs xs) other
    ]

and_false : (b : Bool) → (b && false) ≡ false
and_false true = refl
and_false false = refl

pub precedes-same : (xs : List ℕ) → precedes xs xs ≡ false
precedes-same [] = refl
precedes-same (x ∷ xs) =
    ap (λ (t : Bool). t || (eqb x x && precedes xs xs)) (le-ltb x x (omega arith))
    ∙ ap (λ (t : Bool). eqb x x && t) (precedes-same xs) ∙ and_false (eqb x x)

pub precedes-back : (xs ys : List ℕ) → precedes xs ys ≡ true → precedes ys xs ≡ false
precedes-back [] ys p = absurd (cc)
precedes-back (x ∷ xs) [] p = absurd (cc)
precedes-back (x ∷ xs) (y ∷ ys) p = elim (cases_Bool (ltb x y)) [
  | inl less ↦
      let lt : x < y = ltb-true x y less in
      ap (λ (t : Bool). t || (eqb y x && precedes ys xs)) (le-ltb y x (omega arith))
      ∙ ap (λ (t : Bool). t && precedes ys xs) (ne_eqb y x (λ e. omega arith))
  | inr more ↦
      let le : y ≤ x = ltb-false x y more in
      let rest : (eqb x y && precedes xs ys) ≡ true =
      sym (ap (λ (t : Bool). t || (eqb x y && precedes xs ys)) more) ∙ p in
      elim (cases_Bool (eqb x y)) [
        | inl same ↦
            let one : x ≡ y = eqb-true x y same in
            let below : precedes xs ys ≡ true = sym (ap (λ (t : Bool). t && precedes xs ys) same) ∙ rest in
            ap (λ (t : Bool). t || (eqb y x && precedes ys xs)) (le-ltb y x (omega arith))
            ∙ ap (λ (t : Bool). eqb y x && t) (precedes-back xs ys below) ∙ and_false (eqb y x)
        | inr other ↦
            absurd (let h : false ≡ true = sym (ap (λ (t : Bool). t && precedes xs ys) other) ∙ rest in cc)
      ]
]

-- two lists of one length of which neither precedes the other are one
pub precedes-neither : (n : ℕ) (xs ys : List ℕ) → length xs ≡ n → length ys ≡ n
    → precedes xs ys ≡ false → precedes ys xs ≡ false → xs ≡ ys
precedes-neither n [] [] e f p q = refl
precedes-neither n [] (y ∷ ys) e f p q = absurd (omega (arith, e, f))
precedes-neither n (x ∷ xs) [] e f p q = absurd (omega (arith, e, f))
precedes-neither zero (x ∷ xs) (y ∷ ys) e f p q = absurd (omega (arith, e))
precedes-neither (suc n) (x ∷ xs) (y ∷ ys) e f p q =
    let a = or_parts (ltb x y) (eqb x y && precedes xs ys) p in
    let b = or_parts (ltb y x) (eqb y x && precedes ys xs) q in
    let le : y ≤ x = ltb-false x y a.0 in
    let le2 : x ≤ y = ltb-false y x b.0 in
    let xy : x ≡ y = omega arith in
    let first : precedes xs ys ≡ false = sym (ap (λ (t : Bool). t && precedes xs ys) (eq-eqb x y xy)) ∙ a.1 in
    let second : precedes ys xs ≡ false = sym (ap (λ (t : Bool). t && precedes ys xs) (eq-eqb y x (sym xy))) ∙ b.1 in
    let rest : xs ≡ ys = precedes-neither n xs ys (omega (arith, e)) (omega (arith, f)) first second in
    ap (λ (h : ℕ). h ∷ xs) xy ∙ ap (λ (t : List ℕ). y ∷ t) rest

matched_long : (o : Option Candidate) (place : ℕ) → length (matched_key o place) ≡ 8
matched_long None place = refl
matched_long (Some c) place = refl

pub key_long : (matched : List Candidate) (source : Source) → length (key matched source) ≡ 8
key_long matched (Code bound) = refl
key_long matched (Declared at place) = matched_long (slice_get matched at) place
