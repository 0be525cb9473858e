-- The greatest level is what a search finds, and what it gives out is a share.
use Rattle.std.proofs.Common.{◌≡◌, ℕ, zero, suc, Bool, true, false, cond, ◌+◌, ◌-◌, ◌^◌, ◌<◌, ◌≤◌, ◌⊎◌, List, [], ◌∷◌, length, map, drop, get_or, min, refl, sym, ◌∙◌, ap, inl, inr, arith, drop-cons, add-one}
use Rattle.std.specs.Prelude.{nat_le}
use Rattle.std.proofs.lemmas.Bool.{cases_lt, le-leb, leb-false, leb-true, lt-leb}
use Rattle.fx_share.specs.Levels.{filled, levelled}
use Rattle.fx_share.proofs.Levels.{IsShare-levelled, filled-zero}
use Rattle.fx_panes_parts.specs.Lengths.{longest}
use Rattle.fx_panes_parts.specs.Shares.{ShareIsShare, greatest, level_of, share_of}

-- what a list holds from a place on begins with the item there
pub map-drop : {X Y : Type 0} (f : X → Y) (xs : List X) (i : ℕ) (x : X) → i < length xs → x ≡ get_or xs i x
    → map f (drop i xs) ≡ f x ∷ map f (drop (i + 1) xs)
map-drop f xs i x inside is =
    rw (add-one, drop-cons xs i x inside) (ap (λ y. f y ∷ map f (drop (suc i) xs)) (sym is))

greatest_is : (test : ℕ → Bool) (bound n : ℕ) → n ≤ bound → test n ≡ true
    → ((k : ℕ) → n < k → k ≤ bound → test k ≡ false) → greatest test bound ≡ n
unfolding greatest
greatest_is test zero n within passes fails = omega (arith, within)
greatest_is test (suc bound) n within passes fails =
    elim (cases_lt n (suc bound)) [
      | inl below ↦
          rw (fails (suc bound) below (omega arith))
          (greatest_is test bound n (omega (arith, below)) passes (λ k over inside. fails k over (omega (arith, inside))))
      | inr top ↦
          let same : n ≡ suc bound = omega (arith, within, top) in
          let here : test (suc bound) ≡ true = rw same at passes in
          rw here (sym same)
    ]

greatest_passes : (test : ℕ → Bool) (bound : ℕ) → test 0 ≡ true → test (greatest test bound) ≡ true
unfolding greatest
greatest_passes test zero least = least
greatest_passes test (suc bound) least =
    elim (test (suc bound)) as (λ b. test (suc bound) ≡ b → test (cond b (suc bound) (greatest test bound)) ≡ true) [
      | true ↦ λ passes. passes
      | false ↦ λ _. greatest_passes test bound least
    ] refl

greatest_next : (test : ℕ → Bool) (bound : ℕ)
    → (greatest test bound ≡ bound) ⊎ (test (greatest test bound + 1) ≡ false)
unfolding greatest
greatest_next test zero = inl refl
greatest_next test (suc bound) =
    elim (test (suc bound)) as (λ b. test (suc bound) ≡ b
    → (cond b (suc bound) (greatest test bound) ≡ suc bound) ⊎ (test (cond b (suc bound) (greatest test bound) + 1) ≡ false)) [
      | true ↦ λ _. inl refl
      | false ↦ λ fails.
          elim (greatest_next test bound) [
            | inl top ↦ inr (rw (top, add-one) fails)
            | inr next ↦ inr next
          ]
    ] refl

-- a higher level holds no less
filled-rises : (low high : ℕ) (caps : List ℕ) → low ≤ high → filled low caps ≤ filled high caps
filled-rises low high [] order = omega arith
filled-rises low high (cap ∷ caps) order = omega (arith, order, filled-rises low high caps order)

-- a level that the total fills while it doesn't fill the next is the greatest
pub level_found : (total level : ℕ) (caps : List ℕ) → level ≤ 100000 → filled level caps ≤ total
    → (level ≡ 100000) ⊎ (total < filled (level + 1) caps) → level_of total caps ≡ level
unfolding level_of
level_found total level caps within enough greatest =
    greatest_is (λ (n : ℕ). nat_le (filled n caps) total) longest level within (le-leb (filled level caps) total enough)
    (λ k over inside.
    elim greatest [
      | inl top ↦ absurd (omega (arith, top, over, inside))
      | inr below ↦
          lt-leb (filled k caps) total (omega (arith, below, filled-rises (level + 1) k caps (omega (arith, over))))
    ])

pub search_ends : (total low high : ℕ) (caps : List ℕ) → low ≤ high → high ≤ low → high < 100000 → filled low caps ≤ total
    → total < filled (high + 1) caps → low ≡ level_of total caps
search_ends total low high caps order met within enough greatest =
    let same : high ≡ low = omega (arith, order, met) in
    sym (level_found total low caps (omega (arith, order, within)) enough (inr (rw same at greatest)))

-- where the total fills all caps, the level is the greatest that there is
pub all_filled : (total : ℕ) (caps : List ℕ) → total < 2 ^ 63 → min (filled 100000 caps) (2 ^ 64 - 1) ≤ total
    → 100000 ≡ level_of total caps
all_filled total caps small enough =
    sym (level_found total 100000 caps (omega arith) (omega (arith, small, enough)) (inl refl))

levelled-none : (level more : ℕ) (caps : List ℕ) → filled level caps ≡ 0 → more ≡ 0 → levelled 0 0 caps ≡ levelled level more caps
levelled-none level more [] empty none = refl
levelled-none level more (cap ∷ caps) empty none =
    elim (cases_lt 0 cap) [
      | inl some ↦
          let low : level ≡ 0 = omega (arith, empty, some) in
          sym (ap (λ (n : ℕ). levelled n more (cap ∷ caps)) low ∙ ap (λ (n : ℕ). levelled 0 n (cap ∷ caps)) none)
      | inr no_cap ↦
          rw (le-leb cap 0 no_cap, le-leb cap level (omega (arith, no_cap)))
          (ap (λ (l : List ℕ). cap ∷ l) (levelled-none level more caps (omega (arith, empty)) none))
    ]

-- a share of nothing gives nothing
pub share_of_none : (total : ℕ) (caps : List ℕ) → total ≡ 0 → levelled 0 0 caps ≡ share_of total caps
unfolding level_of share_of
share_of_none total caps none =
    let test : ℕ → Bool = λ n. nat_le (filled n caps) total in
    let enough : filled (greatest test longest) caps ≤ total =
    leb-true _ _ (greatest_passes test longest (le-leb (filled 0 caps) total (omega (arith, filled-zero caps)))) in
    levelled-none (greatest test longest) _ caps (omega (arith, enough, none)) (omega (arith, none))

-- what is left above the level goes to the first of the caps that are above it
pub share_given : (total level wide more : ℕ) (caps : List ℕ) → total < 2 ^ 63 → level ≡ level_of total caps → wide ≡ level
    → more ≡ total - min (filled wide caps) (2 ^ 64 - 1) → levelled level more caps ≡ share_of total caps
unfolding share_of
share_given total level wide more caps small level_is wide_is more_is =
    let exact : more ≡ total - min (filled level caps) (2 ^ 64 - 1) = rw wide_is at more_is in
    let rest : more ≡ total - filled level caps = omega (arith, small, exact) in
    rw (rest, level_is) refl

pub share_law : ShareIsShare
unfolding level_of share_of
share_law total caps small =
    let test : ℕ → Bool = λ n. nat_le (filled n caps) total in
    let enough : filled (greatest test longest) caps ≤ total =
    leb-true _ _ (greatest_passes test longest (le-leb (filled 0 caps) total (omega (arith, filled-zero caps)))) in
    IsShare-levelled longest total (greatest test longest) caps enough small
    (elim (greatest_next test longest) [ inl top ↦ inl top | inr next ↦ inr (leb-false _ _ next) ])
