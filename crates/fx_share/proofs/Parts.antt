-- There is one share.
use Rattle.std.proofs.Common.{◌≡◌, ℕ, zero, suc, ◌+◌, ◌<◌, ◌≤◌, ◌⊎◌, List, [], ◌∷◌, length, get_or, sum, refl, sym, ◌∙◌, ap, subst, inl, inr, arith}
use Rattle.std.proofs.lemmas.Bool.{cases_lt, cases_order}
use Rattle.fx_share.specs.Parts.{IsPart, OneShare}
use Rattle.fx_share.proofs.Levels.{sum-cons}

-- no part of the first is greater than the second's
abbrev IsUnder : List ℕ → List ℕ → Type 0
IsUnder one other = (k : ℕ) → k < length one → get_or one k 0 ≤ get_or other k 0

under_tail : (x y : ℕ) (xs ys : List ℕ) → IsUnder (x ∷ xs) (y ∷ ys) → IsUnder xs ys
under_tail x y xs ys under k inside = under (suc k) (omega (arith, inside))

sum-under : (one other : List ℕ) → length one ≡ length other → IsUnder one other → sum one ≤ sum other
sum-under [] other same under = omega arith
sum-under (x ∷ xs) [] same under = absurd (omega (arith, same))
sum-under (x ∷ xs) (y ∷ ys) same under =
    omega (
      arith,
      sum-cons x xs,
      sum-cons y ys,
      under 0 (omega arith),
      sum-under xs ys (omega (arith, same)) (under_tail x y xs ys under),
    )

-- lists of one sum of which one is under the other are the same
same_from_under : (one other : List ℕ) → length one ≡ length other → IsUnder one other → sum one ≡ sum other → one ≡ other
same_from_under [] [] same under sums = refl
same_from_under [] (y ∷ ys) same under sums = absurd (omega (arith, same))
same_from_under (x ∷ xs) [] same under sums = absurd (omega (arith, same))
same_from_under (x ∷ xs) (y ∷ ys) same under sums =
    let short : length xs ≡ length ys = omega (arith, same) in
    let rest : IsUnder xs ys = under_tail x y xs ys under in
    let head : x ≤ y = under 0 (omega arith) in
    let more : sum xs ≤ sum ys = sum-under xs ys short rest in
    let heads : x ≡ y = omega (arith, sum-cons x xs, sum-cons y ys, head, more, sums) in
    let tails : sum xs ≡ sum ys = omega (arith, sum-cons x xs, sum-cons y ys, heads, sums) in
    ap (λ (n : ℕ). n ∷ xs) heads ∙ ap (λ (l : List ℕ). y ∷ l) (same_from_under xs ys short rest tails)

-- a lower level gives parts that are no greater
under_lower : (low high cap one other : ℕ) → low < high → IsPart low cap one → IsPart high cap other → one ≤ other
under_lower low high cap one other below first second =
    elim (cases_lt low cap) [
      | inr within ↦ omega (arith, within, below, first.small within, second.small (omega (arith, within, below)))
      | inl over ↦
          elim (first.large over) [
            | inl at_low ↦
                elim (cases_lt high cap) [
                  | inr within ↦ omega (arith, over, at_low, second.small within)
                  | inl far ↦
                      elim (second.large far) [ inl at ↦ omega (arith, at_low, at, below) | inr more ↦ omega (arith, at_low, more, below) ]
                ]
            | inr above_low ↦
                elim (cases_lt high cap) [
                  | inr within ↦ omega (arith, over, above_low, second.small within)
                  | inl far ↦
                      elim (second.large far) [ inl at ↦ omega (arith, above_low, at, below) | inr more ↦ omega (arith, above_low, more, below) ]
                ]
          ]
    ]

-- either no part of the first is greater, or some is
under_or_over : (one other : List ℕ) (n : ℕ)
    → ((k : ℕ) → k < n → get_or one k 0 ≤ get_or other k 0) ⊎ ((k : ℕ) × (k < n) × (get_or other k 0 < get_or one k 0))
under_or_over one other zero = inl (λ k inside. absurd (omega (arith, inside)))
under_or_over one other (suc n) =
    elim (under_or_over one other n) [
      | inr found ↦ inr (found.0, omega (arith, found.1), found.2)
      | inl under ↦
          elim (cases_lt (get_or other n 0) (get_or one n 0)) [
            | inl over ↦ inr (n, omega arith, over)
            | inr last ↦
                inl (λ k inside.
                elim (cases_lt k n) [
                  | inl before ↦ under k before
                  | inr at ↦ let e : k ≡ n = omega (arith, at, inside) in rw e last
                ])
          ]
    ]

-- parts under a level, in order
record IsLevelled (level : ℕ) (caps parts : List ℕ) : Type 0 where
  even : (k : ℕ) → k < length caps → IsPart level (get_or caps k 0) (get_or parts k 0)
  in_order : (i k : ℕ) → i < k → k < length caps → level < get_or caps i 0 → level < get_or caps k 0
      → get_or parts i 0 ≡ level → get_or parts k 0 ≡ level + 1 → ⊥

-- of two parts under one level the greater is one above it and the other at it
one_above : (level top one other : ℕ) → IsPart level top one → IsPart level top other → other < one
    → (level < top) × (one ≡ level + 1) × (other ≡ level)
one_above level top one other first second over =
    elim (cases_lt level top) [
      | inr within ↦ absurd (omega (arith, first.small within, second.small within, over))
      | inl open_top ↦
          elim (first.large open_top) [
            | inl at ↦
                elim (second.large open_top) [
                  | inl at_too ↦ absurd (omega (arith, at, at_too, over))
                  | inr more ↦ absurd (omega (arith, at, more, over))
                ]
            | inr more ↦
                elim (second.large open_top) [
                  | inl at ↦ (open_top, more, at)
                  | inr more_too ↦ absurd (omega (arith, more, more_too, over))
                ]
          ]
    ]

-- where one part is greater than another's under the same level, none is less
over_from_one : (level : ℕ) (caps one other : List ℕ) (i : ℕ)
    → IsLevelled level caps one → IsLevelled level caps other
    → i < length caps → get_or other i 0 < get_or one i 0
    → (k : ℕ) → k < length caps → get_or other k 0 ≤ get_or one k 0
over_from_one level caps one other i first second inside over k within =
    elim (cases_lt (get_or one k 0) (get_or other k 0)) [
      | inr no_less ↦ no_less
      | inl less ↦
          let at_i = one_above level (get_or caps i 0) (get_or one i 0) (get_or other i 0) (first.even i inside) (second.even i inside) over in
          let at_k = one_above level (get_or caps k 0) (get_or other k 0) (get_or one k 0) (second.even k within) (first.even k within) less in
          elim (cases_order i k) [
            | inl same ↦
                let e : get_or one i 0 ≡ get_or one k 0 = ap (λ (n : ℕ). get_or one n 0) same in
                absurd (omega (arith, e, at_i.1, at_k.2))
            | inr differ ↦
                elim differ [
                  | inl before ↦ absurd (second.in_order i k before within at_i.0 at_k.0 at_i.2 at_k.1)
                  | inr after ↦ absurd (first.in_order k i after inside at_k.0 at_i.0 at_k.2 at_i.1)
                ]
          ]
    ]

-- parts under one level with one sum are the same
same_level : (level : ℕ) (caps one other : List ℕ)
    → length one ≡ length caps → length other ≡ length caps → sum one ≡ sum other
    → IsLevelled level caps one → IsLevelled level caps other → one ≡ other
same_level level caps one other short_one short_other sums first second =
    elim (under_or_over one other (length one)) [
      | inl under ↦ same_from_under one other (short_one ∙ sym short_other) under sums
      | inr found ↦
          sym
          (same_from_under other one (short_other ∙ sym short_one)
          (λ k inside.
          over_from_one level caps one other found.0 first second (omega (arith, found.1, short_one)) found.2 k
          (omega (arith, inside, short_other)))
          (sym sums))
    ]

pub one_share : OneShare
one_share total caps one other first second =
    let sums : sum one ≡ sum other = first.whole ∙ sym second.whole in
    elim (cases_order first.level second.level) [
      | inl same ↦
          let Levelled : ℕ → Type 0 = λ level. IsLevelled level caps other in
          same_level first.level caps one other first.same_length second.same_length sums
          (record { even = first.even; in_order = first.in_order })
          (subst Levelled (sym same) (record { even = second.even; in_order = second.in_order }))
      | inr differ ↦
          elim differ [
            | inl lower ↦
                same_from_under one other (first.same_length ∙ sym second.same_length)
                (λ k inside.
                let within : k < length caps = omega (arith, inside, first.same_length) in
                under_lower first.level second.level _ _ _ lower (first.even k within) (second.even k within))
                sums
            | inr higher ↦
                sym
                (same_from_under other one (second.same_length ∙ sym first.same_length)
                (λ k inside.
                let within : k < length caps = omega (arith, inside, second.same_length) in
                under_lower second.level first.level _ _ _ higher (second.even k within) (first.even k within))
                (sym sums))
          ]
    ]
