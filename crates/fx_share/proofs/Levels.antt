-- How levels fill caps, and that what is levelled is a share.
use Rattle.std.proofs.Common.{◌≡◌, ℕ, zero, suc, ◌+◌, ◌-◌, ◌<◌, ◌≤◌, ◌⊎◌, cond, List, [], ◌∷◌, length, get_or, sum, min, All, refl, ap, inl, inr, arith}
use Rattle.std.specs.Prelude.{nat_le}
use Rattle.std.proofs.lemmas.Bool.{cases_lt, le-leb, lt-leb, lt-ltb, le-ltb}
use Rattle.std.proofs.lemmas.List.Elements.{All-cons, All-head, All-nil, All-tail, All-weaker}
use Rattle.std.proofs.lemmas.List.Sums.{sum_by-cons}
use Rattle.fx_share.specs.Levels.{filled, levelled}
use Rattle.fx_share.specs.Parts.{IsPart, IsShare, SomeShare}

pub sum-cons : (x : ℕ) (xs : List ℕ) → sum (x ∷ xs) ≡ x + sum xs
sum-cons x xs = sum_by-cons (λ (n : ℕ). n) x xs

-- how many caps are above the level
above : ℕ → List ℕ → ℕ
above level [] = 0
above level (cap ∷ caps) = cond (nat_le cap level) 0 1 + above level caps

pub filled-zero : (caps : List ℕ) → filled 0 caps ≡ 0
filled-zero [] = refl
filled-zero (cap ∷ caps) = omega (arith, filled-zero caps)

filled-le-sum : (level : ℕ) (caps : List ℕ) → filled level caps ≤ sum caps
filled-le-sum level [] = omega arith
filled-le-sum level (cap ∷ caps) = omega (arith, filled-le-sum level caps, sum-cons cap caps)

filled-all : (level : ℕ) (caps : List ℕ) → All (λ (cap : ℕ). cap ≤ level) caps → filled level caps ≡ sum caps
filled-all level [] within = refl
filled-all level (cap ∷ caps) within =
    let head : cap ≤ level = All-head (λ (cap : ℕ). cap ≤ level) cap caps within in
    omega (arith, head, filled-all level caps (All-tail (λ (cap : ℕ). cap ≤ level) cap caps within), sum-cons cap caps)

filled-next : (level : ℕ) (caps : List ℕ) → filled (level + 1) caps ≡ filled level caps + above level caps
unfolding above
filled-next level [] = refl
filled-next level (cap ∷ caps) =
    elim (cases_lt level cap) [
      | inl over ↦ rw (lt-leb cap level over) (omega (arith, over, filled-next level caps))
      | inr within ↦ rw (le-leb cap level within) (omega (arith, within, filled-next level caps))
    ]

-- one step of a levelled list, by where the cap stands
by_step : (P : List ℕ → Type 0) (level more cap : ℕ) (caps : List ℕ)
    → (cap ≤ level → P (cap ∷ levelled level more caps))
    → (level < cap → 0 < more → P ((level + 1) ∷ levelled level (more - 1) caps))
    → (level < cap → more ≡ 0 → P (level ∷ levelled level more caps))
    → P (levelled level more (cap ∷ caps))
by_step P level more cap caps at_cap one_more at_level =
    elim (cases_lt level cap) [
      | inl over ↦
          elim (cases_lt 0 more) [
            | inl some ↦ rw (lt-leb cap level over, lt-ltb 0 more some) (one_more over some)
            | inr none ↦ rw (lt-leb cap level over, le-ltb 0 more none) (at_level over (omega (arith, none)))
          ]
      | inr within ↦ rw (le-leb cap level within) (at_cap within)
    ]

length-levelled : (level more : ℕ) (caps : List ℕ) → length (levelled level more caps) ≡ length caps
length-levelled level more [] = refl
length-levelled level more (cap ∷ caps) =
    by_step (λ (parts : List ℕ). length parts ≡ suc (length caps)) level more cap caps
    (λ _. ap suc (length-levelled level more caps))
    (λ _ _. ap suc (length-levelled level (more - 1) caps))
    (λ _ _. ap suc (length-levelled level more caps))

sum-levelled : (level more : ℕ) (caps : List ℕ)
    → sum (levelled level more caps) ≡ filled level caps + min more (above level caps)
unfolding above
sum-levelled level more [] = omega arith
sum-levelled level more (cap ∷ caps) =
    by_step
    (λ (parts : List ℕ).
    sum parts ≡ min cap level + filled level caps + min more (cond (nat_le cap level) 0 1 + above level caps))
    level more cap caps
    (λ within. rw (le-leb cap level within) (omega (arith, within, sum-cons cap (levelled level more caps), sum-levelled level more caps)))
    (λ over some.
    rw (lt-leb cap level over)
    (omega (arith, over, some, sum-cons (level + 1) (levelled level (more - 1) caps), sum-levelled level (more - 1) caps)))
    (λ over none.
    rw (lt-leb cap level over)
    (omega (arith, over, none, sum-cons level (levelled level more caps), sum-levelled level more caps)))

IsPart-levelled : (level more : ℕ) (caps : List ℕ) (k : ℕ) → k < length caps
    → IsPart level (get_or caps k 0) (get_or (levelled level more caps) k 0)
IsPart-levelled level more [] k inside = absurd (omega (arith, inside))
IsPart-levelled level more (cap ∷ caps) zero inside =
    by_step (λ (parts : List ℕ). IsPart level cap (get_or parts 0 0)) level more cap caps
    (λ within. record { small = λ _. refl; large = λ over. absurd (omega (arith, over, within)) })
    (λ over _. record { small = λ within. absurd (omega (arith, over, within)); large = λ _. inr refl })
    (λ over _. record { small = λ within. absurd (omega (arith, over, within)); large = λ _. inl refl })
IsPart-levelled level more (cap ∷ caps) (suc k) inside =
    let here : k < length caps = omega (arith, inside) in
    by_step (λ (parts : List ℕ). IsPart level (get_or caps k 0) (get_or parts (suc k) 0)) level more cap caps
    (λ _. IsPart-levelled level more caps k here)
    (λ _ _. IsPart-levelled level (more - 1) caps k here)
    (λ _ _. IsPart-levelled level more caps k here)

-- with none to be above the level, each that can stands at it
at_level_alone : (level more : ℕ) (caps : List ℕ) (k : ℕ) → more ≡ 0 → k < length caps → level < get_or caps k 0
    → get_or (levelled level more caps) k 0 ≡ level
at_level_alone level more [] k none inside over = absurd (omega (arith, inside))
at_level_alone level more (cap ∷ caps) zero none inside over =
    by_step (λ (parts : List ℕ). get_or parts 0 0 ≡ level) level more cap caps
    (λ within. absurd (omega (arith, within, over)))
    (λ _ some. absurd (omega (arith, some, none)))
    (λ _ _. refl)
at_level_alone level more (cap ∷ caps) (suc k) none inside over =
    let rest : get_or (levelled level more caps) k 0 ≡ level = at_level_alone level more caps k none (omega (arith, inside)) over in
    by_step (λ (parts : List ℕ). get_or parts (suc k) 0 ≡ level) level more cap caps
    (λ _. rest)
    (λ _ some. absurd (omega (arith, some, none)))
    (λ _ _. rest)

in_order : (level more : ℕ) (caps : List ℕ) (i k : ℕ) → i < k → k < length caps
    → level < get_or caps i 0 → level < get_or caps k 0
    → get_or (levelled level more caps) i 0 ≡ level → get_or (levelled level more caps) k 0 ≡ level + 1 → ⊥
in_order level more [] i k before inside first second at_level above_it = omega (arith, inside)
in_order level more (cap ∷ caps) i zero before inside first second at_level above_it = omega (arith, before)
in_order level more (cap ∷ caps) zero (suc k) before inside first second at_level above_it =
    by_step (λ (parts : List ℕ). get_or parts 0 0 ≡ level → get_or parts (suc k) 0 ≡ level + 1 → ⊥) level more cap caps
    (λ within. absurd (omega (arith, within, first)))
    (λ _ _ here _. omega (arith, here))
    (λ _ none _ there. omega (arith, there, at_level_alone level more caps k none (omega (arith, inside)) second))
    at_level above_it
in_order level more (cap ∷ caps) (suc i) (suc k) before inside first second at_level above_it =
    let order : i < k = omega (arith, before) in
    let here : k < length caps = omega (arith, inside) in
    by_step (λ (parts : List ℕ). get_or parts (suc i) 0 ≡ level → get_or parts (suc k) 0 ≡ level + 1 → ⊥) level more cap caps
    (λ _. in_order level more caps i k order here first second)
    (λ _ _. in_order level (more - 1) caps i k order here first second)
    (λ _ _. in_order level more caps i k order here first second)
    at_level above_it

-- filled up to the greatest level that the total reaches, the caps have their share
pub IsShare-levelled : (most total level : ℕ) (caps : List ℕ)
    → filled level caps ≤ total → All (λ (cap : ℕ). cap ≤ most) caps
    → (level ≡ most) ⊎ (total < filled (level + 1) caps)
    → IsShare total caps (levelled level (total - filled level caps) caps)
IsShare-levelled most total level caps enough small greatest =
    record {
      same_length = length-levelled level (total - filled level caps) caps;
      whole = whole;
      level = level;
      even = IsPart-levelled level (total - filled level caps) caps;
      in_order = in_order level (total - filled level caps) caps;
    }
  where
    up_to : filled (level + 1) caps ≤ sum caps
    up_to = filled-le-sum (level + 1) caps

    whole : sum (levelled level (total - filled level caps) caps) ≡ min total (sum caps)
    whole =
        elim greatest [
          | inl top ↦
              let all : filled level caps ≡ sum caps = rw top (filled-all most caps small) in
              omega (arith, enough, all, up_to, filled-next level caps, sum-levelled level (total - filled level caps) caps)
          | inr below ↦
              omega (arith, enough, below, up_to, filled-next level caps, sum-levelled level (total - filled level caps) caps)
        ]

-- the greatest level up to which the total fills the caps, but `most` at most
level_up_to : (most total : ℕ) (caps : List ℕ)
    → (level : ℕ) × (filled level caps ≤ total) × ((level ≡ most) ⊎ (total < filled (level + 1) caps))
level_up_to zero total caps = (0, omega (arith, filled-zero caps), inl refl)
level_up_to (suc most) total caps =
    let found = level_up_to most total caps in
    elim found.2 [
      | inr below ↦ (found.0, found.1, inr below)
      | inl top ↦
          elim (cases_lt total (filled (suc most) caps)) [
            | inl below ↦
                let e : found.0 + 1 ≡ suc most = omega (arith, top) in
                let over : total < filled (found.0 + 1) caps = rw e below in
                (found.0, found.1, inr over)
            | inr enough ↦ (suc most, enough, inl refl)
          ]
    ]

All-le-sum : (caps : List ℕ) → All (λ (cap : ℕ). cap ≤ sum caps) caps
All-le-sum [] = All-nil (λ (cap : ℕ). cap ≤ 0)
All-le-sum (cap ∷ caps) =
    All-cons (λ (n : ℕ). n ≤ sum (cap ∷ caps)) cap caps
    (omega (arith, sum-cons cap caps))
    (All-weaker (λ (n : ℕ). n ≤ sum caps) (λ (n : ℕ). n ≤ sum (cap ∷ caps))
    (λ n small. omega (arith, small, sum-cons cap caps)) caps (All-le-sum caps))

pub some_share : SomeShare
some_share total caps =
    let found = level_up_to (sum caps) total caps in (
      levelled found.0 (total - filled found.0 caps) caps,
      IsShare-levelled (sum caps) total found.0 caps found.1 (All-le-sum caps) found.2,
    )
