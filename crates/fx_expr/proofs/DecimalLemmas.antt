-- Digits from the left, and the rounding of a number by the first digit behind the point.
use Rattle.std.specs.Char.{is_ascii_digit}
use Rattle.std.proofs.Common.{◌≡◌, ◌<◌, ◌≤◌, ◌+◌, ◌-◌, ◌*◌, ◌/◌, ◌^◌, ℕ, pos, Bool, true, false, ◌++◌, List, [], ◌∷◌, suc, length, drop, drop-cons, get_or, min, cond, leb, inl, inr, refl, sym, ap, ◌∙◌, arith, lit<}
use Rattle.std.specs.List.{list_all, prefix_len}
use Rattle.std.proofs.lemmas.Bool.{and_parts}
use Rattle.std.proofs.lemmas.Bool.Decides.{leb_tells}
use Rattle.std.proofs.lemmas.List.{append-nil, drop_all}
use Rattle.std.proofs.lemmas.Nat.{div-mul-add}
use Rattle.std.proofs.Math.Nat.{pow-suc, mul-le-mul_right}
use Rattle.fx_text.specs.Digits.{number_behind, number_of_digits}
use Rattle.fx_text.proofs.DigitLemmas.{number-append, number_small, digit_small, number_behind_is}
use Rattle.fx_text.specs.Fronts.{front, behind}
use Rattle.fx_text.proofs.FrontLemmas.{front-passes}
use Rattle.fx_expr.specs.Decimal.{rounded, decimal, is_upper, has_fraction, fraction_digits}

-- a front by its first character
pub front_more : (p : ℕ → Bool) (c : ℕ) (cs : List ℕ) → p c ≡ true → front p (c ∷ cs) ≡ c ∷ front p cs
front_more p c cs e = let one : 1 + prefix_len p cs ≡ suc (prefix_len p cs) = omega arith in rw (e, one) refl

pub behind_more : (p : ℕ → Bool) (c : ℕ) (cs : List ℕ) → p c ≡ true → behind p (c ∷ cs) ≡ behind p cs
behind_more p c cs e = let one : 1 + prefix_len p cs ≡ suc (prefix_len p cs) = omega arith in rw (e, one) refl

pub behind_none : (p : ℕ → Bool) (c : ℕ) (cs : List ℕ) → p c ≡ false → behind p (c ∷ cs) ≡ c ∷ cs
behind_none p c cs e = rw e refl

-- a greater number stays above
number_grows : (top n : ℕ) (ds : List ℕ) → top ≤ n → top ≤ number_behind n ds
number_grows top n [] h = h
number_grows top n (d ∷ ds) h = number_grows top (n * 10 + (d - 48)) ds (omega arith)

-- a number that is kept below a top one
pub number_capped : (top n d : ℕ) (ds : List ℕ) → min (number_behind (min (min (n * 10) top + (d - 48)) top) ds) top ≡ min (number_behind (n * 10 + (d - 48)) ds) top
number_capped top n d ds = elim (leb_tells (n * 10 + (d - 48)) top) [
  | inl t ↦ let e : min (min (n * 10) top + (d - 48)) top ≡ n * 10 + (d - 48) = omega (arith, t.1) in rw e refl
  | inr t ↦
      let e : min (min (n * 10) top + (d - 48)) top ≡ top = omega (arith, t.1) in
      let low : top ≤ number_behind top ds = number_grows top top ds (omega arith) in
      let high : top ≤ number_behind (n * 10 + (d - 48)) ds = number_grows top (n * 10 + (d - 48)) ds (omega (arith, t.1)) in
      rw e (omega arith)
]

quotient : (n a w r : ℕ) → n ≡ a * w + r → r < w → n / w ≡ a
quotient n a w r e h = rw e (div-mul-add a w r h)

-- half up is by the first digit behind the point
rounds_by_digit : (whole fraction : List ℕ) → list_all is_ascii_digit fraction ≡ true → rounded (number_of_digits (whole ++ fraction)) (10 ^ length fraction) ≡ number_of_digits whole + cond (is_upper fraction) 1 0
unfolding rounded
rounds_by_digit whole [] h =
    let sum : number_of_digits (whole ++ []) ≡ number_of_digits whole = ap number_of_digits (append-nil whole) in
    rw sum (quotient (2 * number_of_digits whole + 1) (number_of_digits whole + 0) 2 1 (omega arith) (lit< tt))
rounds_by_digit whole (d ∷ ds) h =
    let both = and_parts (is_ascii_digit d) (list_all is_ascii_digit ds) h in
    let power : 10 ^ suc (length ds) ≡ 10 ^ length ds * 10 = pow-suc 10 (length ds) in
    by_parts (number_of_digits whole) (d - 48) (10 ^ length ds) (number_of_digits ds) (number_of_digits (whole ++ (d ∷ ds))) (10 ^ suc (length ds)) d refl
    (number-append whole (d ∷ ds) ∙ shaped (number_of_digits whole) (d - 48) (10 ^ length ds) (number_of_digits ds) (10 ^ suc (length ds)) power)
    power (number_small ds both.1) (digit_small d both.0)
  where
    shaped : (w v p r t : ℕ) → t ≡ p * 10 → w * t + (v * p + r) ≡ (w * 10 + v) * p + r
    shaped w v p r t e = rw e (omega arith)

    by_parts : (w v p r n t d : ℕ) → v ≡ d - 48 → n ≡ (w * 10 + v) * p + r → t ≡ p * 10 → r < p → v ≤ 9 → (2 * n + t) / (2 * t) ≡ w + cond (leb 53 d) 1 0
    by_parts w v p r n t d ev en et small v9 = elim (leb_tells 53 d) [
      | inl u ↦
          let five : 5 ≤ v = omega (arith, u.1) in
          let low : 5 * p ≤ v * p = mul-le-mul_right p five in
          let high : v * p ≤ 9 * p = mul-le-mul_right p v9 in
          rw (u.0, et) (quotient (2 * n + p * 10) (w + 1) (2 * (p * 10)) (2 * (v * p + r) - p * 10) (let en' : n ≡ (w * 10 + v) * p + r = en in omega (arith, en')) (omega arith))
      | inr u ↦
          let four : v ≤ 4 = omega (arith, u.1) in
          let low : v * p ≤ 4 * p = mul-le-mul_right p four in
          rw (u.0, et) (quotient (2 * n + p * 10) (w + 0) (2 * (p * 10)) (2 * (v * p + r) + p * 10) (omega (arith, en)) (omega arith))
    ]

-- the number that is counted from digits below a top one
pub decimal_is : (whole fraction : List ℕ) (up : Bool) (n : ℕ) → list_all is_ascii_digit fraction ≡ true → up ≡ is_upper fraction → n ≡ min (number_behind 0 whole) (2 ^ 64 - 1)
    → pos (min (n + cond up 1 0) (2 ^ 63 - 1)) ≡ decimal whole fraction
decimal_is whole fraction up n h e f =
    let same : number_behind 0 whole ≡ number_of_digits whole = number_behind_is 0 whole ∙ omega arith in
    ap pos (capped up n (number_of_digits whole) (rounded (number_of_digits (whole ++ fraction)) (10 ^ length fraction)) (f ∙ ap (λ w. min w (2 ^ 64 - 1)) same) (rw e (rounds_by_digit whole fraction h)))
  where
    capped : (up : Bool) (n w r : ℕ) → n ≡ min w (2 ^ 64 - 1) → r ≡ w + cond up 1 0 → min (n + cond up 1 0) (2 ^ 63 - 1) ≡ min r (2 ^ 63 - 1)
    capped true n w r f e = omega (arith, e, f)
    capped false n w r f e = omega (arith, e, f)

-- the digits of the fraction are digits
pub fraction_pass : (text : List ℕ) → list_all is_ascii_digit (fraction_digits text) ≡ true
fraction_pass text = (elim (has_fraction text) as (λ b. list_all is_ascii_digit (cond b (front is_ascii_digit (drop 1 text)) []) ≡ true) [ true ↦ front-passes is_ascii_digit (drop 1 text) | false ↦ refl ])

-- one digit more
pub digit_more : (n m g r i : ℕ) (ds : List ℕ) (x known : ℕ) → i < length ds → x ≡ get_or ds i 0
    → m ≡ min (n * 10) 18446744073709551615 → g ≡ x - 48 → r ≡ min (m + g) 18446744073709551615
    → min (number_behind n (drop i ds)) 18446744073709551615 ≡ known
    → min (number_behind r (drop (i + 1) ds)) 18446744073709551615 ≡ known
digit_more n m g r i ds x known within is em eg er inv =
    let cut : drop i ds ≡ x ∷ drop (suc i) ds = drop-cons ds i 0 within ∙ ap (λ y. y ∷ drop (suc i) ds) (sym is) in
    let now : min (number_behind (n * 10 + (x - 48)) (drop (suc i) ds)) 18446744073709551615 ≡ known = rw cut at inv in
    let next : i + 1 ≡ suc i = omega arith in
    rw (next, er, em, eg) (number_capped 18446744073709551615 n x (drop (suc i) ds) ∙ now)

pub digits_end : (n i : ℕ) (ds : List ℕ) (known : ℕ) → n ≤ 18446744073709551615 → length ds ≤ i
    → min (number_behind n (drop i ds)) 18446744073709551615 ≡ known → n ≡ known
digits_end n i ds known small over inv =
    let none : drop i ds ≡ [] = drop_all i ds over in
    let now : min n 18446744073709551615 ≡ known = rw none at inv in
    omega (arith, now)
