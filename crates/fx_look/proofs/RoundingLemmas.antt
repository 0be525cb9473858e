-- The rounding that is read off the digits is that of the exact fraction.
use Rattle.std.proofs.Common.{◌≡◌, ℕ, zero, suc, ◌+◌, ◌-◌, ◌*◌, ◌/◌, ◌^◌, ◌<◌, ◌≤◌, inl, inr, Bool, true, false, ◌||◌, nat_le, nat_lt, if◌then◌else◌, min, List, [], ◌∷◌, ◌++◌, length, take, drop, replicate, slice_index_or, refl, sym, ap, ◌∙◌, arith, ℤ, pos, neg_ℤ, append-nil}
use Rattle.std.specs.List.{list_all, list_any}
use Rattle.std.specs.Char.{is_ascii_digit}
use Rattle.std.proofs.lemmas.Bool.{and_parts}
use Rattle.std.proofs.lemmas.Bool.Decides.{eqb_tells, leb_tells}
use Rattle.std.proofs.lemmas.Nat.{div-mul-add, pow-add}
use Rattle.std.proofs.lemmas.List.{length-append, length-drop, length-replicate, take-append-drop}
use Rattle.std.proofs.lemmas.List.Folds.{list_all-append, list_any-append}
use Rattle.std.proofs.Math.Nat.{pow-suc, pow-le-pow_right, mul-le-mul_right}
use Rattle.std.proofs.Math.Bool.{or-false}
use Rattle.std.proofs.Math.Seq.{take-suc, take-append_seam}
use Rattle.std.specs.Cmp.Derive.{both_true}
use Rattle.fx_text.specs.Digits.{number_of_digits}
use Rattle.fx_text.proofs.DigitLemmas.{number-append, number_small, ten_power}
use Rattle.fx_text.proofs.FrontLemmas.{tells}
use Rattle.fx_look.specs.Decimals.{Decimal}
use Rattle.fx_look.specs.Numbers.{Power, above, below, rounded, saturated, number_of}
use Rattle.fx_look.specs.Rounding.{digits_of, leading, rounds_away, rounded_at, size_of}

pub quotient : (n a w r : ℕ) → n ≡ a * w + r → r < w → n / w ≡ a
quotient n a w r e small = rw e (div-mul-add a w r small)

-- zeros behind the last digit

number-zeros : (k : ℕ) → number_of_digits (replicate k 48) ≡ 0
number-zeros zero = refl
number-zeros (suc k) = let ih = number-zeros k in omega (arith, ih)

zeros_digits : (k : ℕ) → list_all is_ascii_digit (replicate k 48) ≡ true
zeros_digits zero = refl
zeros_digits (suc k) = zeros_digits k

zeros_none : (k : ℕ) → list_any (nat_lt 48) (replicate k 48) ≡ false
zeros_none zero = refl
zeros_none (suc k) = zeros_none k

-- the first digits, with zeros behind the last one

zeros_at : (k n : ℕ) → ◌≡◌ {A = ℕ} (slice_index_or (replicate k 48) n 48) 48
zeros_at zero n = refl
zeros_at (suc k) zero = refl
zeros_at (suc k) (suc n) = zeros_at k n

padded_at : (ds : List ℕ) (k n : ℕ) → slice_index_or (ds ++ replicate k 48) n 48 ≡ slice_index_or ds n 48
padded_at [] k n = zeros_at k n
padded_at (d ∷ ds) k zero = refl
padded_at (d ∷ ds) k (suc n) = padded_at ds k n

pub leading_is : (ds : List ℕ) (k n : ℕ) → n ≤ length ds + k → leading ds n ≡ number_of_digits (take n (ds ++ replicate k 48))
leading_is ds k zero small = refl
leading_is ds k (suc n) small =
    let xs : List ℕ = ds ++ replicate k 48 in
    let long : length (ds ++ replicate k 48) ≡ length ds + k = length-append ds (replicate k 48) ∙ ap (λ v. length ds + v) (length-replicate k 48) in
    let within : n < length (ds ++ replicate k 48) = omega (arith, long) in
    let ih = leading_is ds k n (omega arith) in
    let last = number-append (take n (ds ++ replicate k 48)) (slice_index_or ds n 48 ∷ []) in
    rw (take-suc (ds ++ replicate k 48) n 48 within, padded_at ds k n, last, ih) (omega arith)

-- whether the rest rounds away doesn't hang on zeros behind it

zeros_stay : (negative : Bool) (k n : ℕ) → rounds_away negative (drop n (replicate k 48)) ≡ false
zeros_stay negative zero zero = refl
zeros_stay negative zero (suc n) = refl
zeros_stay true (suc k) zero = refl
zeros_stay false (suc k) zero = refl
zeros_stay negative (suc k) (suc n) = zeros_stay negative k n

any_padded : (cs : List ℕ) (k : ℕ) → list_any (nat_lt 48) (cs ++ replicate k 48) ≡ list_any (nat_lt 48) cs
any_padded cs k = list_any-append (nat_lt 48) cs (replicate k 48) ∙ rw (zeros_none k) (or-false (list_any (nat_lt 48) cs))

nothing_left : (negative : Bool) (n : ℕ) → rounds_away negative (drop n []) ≡ false
nothing_left negative zero = refl
nothing_left negative (suc n) = refl

pub rounds_padded : (negative : Bool) (ds : List ℕ) (k n : ℕ) → rounds_away negative (drop n (ds ++ replicate k 48)) ≡ rounds_away negative (drop n ds)
rounds_padded negative [] k n = zeros_stay negative k n ∙ sym (nothing_left negative n)
rounds_padded negative (d ∷ ds) k zero = rw (any_padded ds k) refl
rounds_padded negative (d ∷ ds) k (suc n) = rounds_padded negative ds k n

-- a fraction of q wholes and m parts of p, rounded

away : (q p m e : ℕ) → e ≤ 1 → p + e ≤ 2 * m → m < p → (2 * (q * p + m) + p - e) / (2 * p) ≡ q + 1
away q p m e small half part =
    quotient (2 * (q * p + m) + p - e) (q + 1) (2 * p) (2 * m - p - e) (omega arith) (omega arith)

stays : (q p m e : ℕ) → e ≤ 1 → 0 < p → 2 * m < p + e → (2 * (q * p + m) + p - e) / (2 * p) ≡ q
stays q p m e small some half =
    quotient (2 * (q * p + m) + p - e) q (2 * p) (2 * m + p - e) (omega arith) (omega arith)

none_above : (cs : List ℕ) → list_all is_ascii_digit cs ≡ true → list_any (nat_lt 48) cs ≡ false → number_of_digits cs ≡ 0
none_above [] d e = refl
none_above (c ∷ cs) d e = elim (leb_tells (suc 48) c) [
  | inl t ↦ absurd (let f = rw t.0 at e in cc)
  | inr t ↦ let f = rw t.0 at e in
      let ih = none_above cs (and_parts (is_ascii_digit c) (list_all is_ascii_digit cs) d).1 f in
      let none : c - 48 ≡ 0 = omega arith in
      rw (none, ih) (omega arith)
]

some_above : (cs : List ℕ) → list_any (nat_lt 48) cs ≡ true → 0 < number_of_digits cs
some_above [] e = absurd (cc)
some_above (c ∷ cs) e = elim (leb_tells (suc 48) c) [
  | inl t ↦ let one : 1 ≤ c - 48 = omega arith in
      let most = mul-le-mul_right (10 ^ length cs) one in
      let some = ten_power (length cs) in
      omega (arith, most, some)
  | inr t ↦ let ih = some_above cs (rw t.0 at e) in omega (arith, ih)
]

half_up : (q c : ℕ) (cs : List ℕ) → is_ascii_digit c ≡ true → list_all is_ascii_digit cs ≡ true → (2 * (q * 10 ^ length (c ∷ cs) + number_of_digits (c ∷ cs)) + 10 ^ length (c ∷ cs) - 0) / (2 * 10 ^ length (c ∷ cs)) ≡ q + (if nat_le 53 c then 1 else 0)
half_up q c cs d ds =
    let p : 10 ^ length (c ∷ cs) ≡ 10 ^ length cs * 10 = pow-suc 10 (length cs) in
    let small = number_small cs ds in
    let whole = number_small (c ∷ cs) (both_true d ds) in
    elim (leb_tells 53 c) [
      | inl t ↦ let five : 5 ≤ c - 48 = omega arith in
          let least = mul-le-mul_right (10 ^ length cs) five in
          rw t.0 (away q (10 ^ length (c ∷ cs)) (number_of_digits (c ∷ cs)) 0 (omega arith) (omega (arith, p, least)) whole)
      | inr t ↦ let four : c - 48 ≤ 4 = omega arith in
          let most = mul-le-mul_right (10 ^ length cs) four in
          rw t.0 (stays q (10 ^ length (c ∷ cs)) (number_of_digits (c ∷ cs)) 0 (omega arith) (ten_power (length (c ∷ cs))) (omega (arith, p, most, small)) ∙ omega arith)
    ]

half_down : (q c : ℕ) (cs : List ℕ) → is_ascii_digit c ≡ true → list_all is_ascii_digit cs ≡ true → (2 * (q * 10 ^ length (c ∷ cs) + number_of_digits (c ∷ cs)) + 10 ^ length (c ∷ cs) - 1) / (2 * 10 ^ length (c ∷ cs)) ≡ q + (if rounds_away true (c ∷ cs) then 1 else 0)
half_down q c cs d ds =
    let p : 10 ^ length (c ∷ cs) ≡ 10 ^ length cs * 10 = pow-suc 10 (length cs) in
    let some = ten_power (length cs) in
    let small = number_small cs ds in
    let whole = number_small (c ∷ cs) (both_true d ds) in
    elim (eqb_tells c 53) [
      | inl t ↦ let five : c - 48 ≡ 5 = omega arith in
          let exact : number_of_digits (c ∷ cs) ≡ 5 * 10 ^ length cs + number_of_digits cs = ap (λ v. v * 10 ^ length cs + number_of_digits cs) five in
          elim (tells (list_any (nat_lt 48) cs)) [
            | inl a ↦ let more = some_above cs a in
                rw (t.0, a) (away q (10 ^ length (c ∷ cs)) (number_of_digits (c ∷ cs)) 1 (omega arith) (omega (arith, p, exact, more)) whole)
            | inr a ↦ let none = none_above cs ds a in
                rw (t.0, a) (stays q (10 ^ length (c ∷ cs)) (number_of_digits (c ∷ cs)) 1 (omega arith) (ten_power (length (c ∷ cs))) (omega (arith, p, exact, none)) ∙ omega arith)
          ]
      | inr t ↦ elim (leb_tells 53 c) [
        | inl u ↦ let six : 6 ≤ c - 48 = six_of c u.1 t.1 in
            let least = mul-le-mul_right (10 ^ length cs) six in
            rw (t.0, u.0) (away q (10 ^ length (c ∷ cs)) (number_of_digits (c ∷ cs)) 1 (omega arith) (omega (arith, p, least, some)) whole)
        | inr u ↦ let four : c - 48 ≤ 4 = omega arith in
            let most = mul-le-mul_right (10 ^ length cs) four in
            rw (t.0, u.0) (stays q (10 ^ length (c ∷ cs)) (number_of_digits (c ∷ cs)) 1 (omega arith) (ten_power (length (c ∷ cs))) (omega (arith, p, most, small)) ∙ omega arith)
      ]
    ]
  where
    six_of : (c : ℕ) → 53 ≤ c → (c ≡ 53 → ⊥) → 6 ≤ c - 48
    six_of c a b = omega arith

round_rest : (negative : Bool) (q : ℕ) (rest : List ℕ) → list_all is_ascii_digit rest ≡ true → rounded negative (q * 10 ^ length rest + number_of_digits rest) (10 ^ length rest) ≡ q + (if rounds_away negative rest then 1 else 0)
round_rest true q [] d = stays q 1 0 1 (omega arith) (omega arith) (omega arith) ∙ omega arith
round_rest false q [] d = stays q 1 0 0 (omega arith) (omega arith) (omega arith) ∙ omega arith
round_rest true q (c ∷ cs) d = let e = and_parts (is_ascii_digit c) (list_all is_ascii_digit cs) d in half_down q c cs e.0 e.1
round_rest false q (c ∷ cs) d = let e = and_parts (is_ascii_digit c) (list_all is_ascii_digit cs) d in half_up q c cs e.0 e.1

-- the whole

round_parts : (negative : Bool) (xs : List ℕ) (p : ℕ) → list_all is_ascii_digit xs ≡ true → rounded negative (number_of_digits xs) (10 ^ length (drop p xs)) ≡ number_of_digits (take p xs) + (if rounds_away negative (drop p xs) then 1 else 0)
round_parts negative xs p d =
    let split : take p xs ++ drop p xs ≡ xs = take-append-drop p xs in
    let both : list_all is_ascii_digit (take p xs ++ drop p xs) ≡ true = ap (list_all is_ascii_digit) split ∙ d in
    let rest = and_parts (list_all is_ascii_digit (take p xs)) (list_all is_ascii_digit (drop p xs)) (sym (list_all-append is_ascii_digit (take p xs) (drop p xs)) ∙ both) in
    ap (λ n. rounded negative n (10 ^ length (drop p xs))) (sym (ap number_of_digits split) ∙ number-append (take p xs) (drop p xs))
    ∙ round_rest negative (number_of_digits (take p xs)) (drop p xs) rest.1

rounded_shifted : (negative : Bool) (ds : List ℕ) (up p : ℕ) (q : ℕ) → list_all is_ascii_digit ds ≡ true → p ≤ length ds + up → q ≡ length ds + up - p → rounded negative (number_of_digits ds * 10 ^ up) (10 ^ q) ≡ rounded_at negative ds p
rounded_shifted negative ds up p q d within size =
    let long : length (ds ++ replicate up 48) ≡ length ds + up = length-append ds (replicate up 48) ∙ ap (λ v. length ds + v) (length-replicate up 48) in
    let left : length (drop p (ds ++ replicate up 48)) ≡ q = length-drop p (ds ++ replicate up 48) ∙ ap (λ v. v - p) long ∙ sym size in
    let digits : list_all is_ascii_digit (ds ++ replicate up 48) ≡ true = list_all-append is_ascii_digit ds (replicate up 48) ∙ rw (d, zeros_digits up) refl in
    let number : number_of_digits (ds ++ replicate up 48) ≡ number_of_digits ds * 10 ^ up =
    number-append ds (replicate up 48) ∙ rw (number-zeros up, length-replicate {A = ℕ} up 48) (omega arith) in
    sym (ap (λ n. rounded negative n (10 ^ q)) number)
    ∙ sym (ap (λ n. rounded negative (number_of_digits (ds ++ replicate up 48)) (10 ^ n)) left)
    ∙ round_parts negative (ds ++ replicate up 48) p digits
    ∙ rw (rounds_padded negative ds up p, leading_is ds up p within) refl

tiny : (negative : Bool) (n p : ℕ) → 2 * n < p → rounded negative n p ≡ 0
tiny negative n p small =
    let none : n ≡ 0 * p + n = omega arith in
    ap (λ v. rounded negative v p) none ∙ by_sign negative
  where
    by_sign : (negative : Bool) → rounded negative (0 * p + n) p ≡ 0
    by_sign true = stays 0 p n 1 (omega arith) (omega arith) (omega arith)
    by_sign false = stays 0 p n 0 (omega arith) (omega arith) (omega arith)

pub size_is : (d : Decimal) (power : Power) → list_all is_ascii_digit (digits_of d) ≡ true → size_of d power ≡ rounded d.negative (above d power) (below d power)
size_is d power e =
    let long : length (d.whole ++ d.fraction) ≡ length d.whole + length d.fraction = length-append d.whole d.fraction in
    elim (leb_tells (suc (length d.whole + power.up)) power.down) [
      | inl t ↦ rw t.0 (sym (tiny d.negative (above d power) (below d power) (below_half d power e t.1)))
      | inr t ↦ rw t.0 (sym (rounded_shifted d.negative (d.whole ++ d.fraction) power.up (length d.whole + power.up - power.down) (length d.fraction + power.down) e (omega (arith, long)) (omega (arith, long))))
    ]
  where
    below_half : (d : Decimal) (power : Power) → list_all is_ascii_digit (digits_of d) ≡ true → length d.whole + power.up < power.down → 2 * above d power < below d power
    below_half d power e t =
        let long : length (d.whole ++ d.fraction) ≡ length d.whole + length d.fraction = length-append d.whole d.fraction in
        let small = number_small (d.whole ++ d.fraction) e in
        let more : number_of_digits (d.whole ++ d.fraction) * 10 ^ power.up ≤ 10 ^ length (d.whole ++ d.fraction) * 10 ^ power.up = mul-le-mul_right (10 ^ power.up) (omega (arith, small)) in
        let sum : 10 ^ length (d.whole ++ d.fraction) * 10 ^ power.up ≡ 10 ^ (length (d.whole ++ d.fraction) + power.up) = sym (pow-add 10 (length (d.whole ++ d.fraction)) power.up) in
        let step : 10 ^ suc (length (d.whole ++ d.fraction) + power.up) ≡ 10 ^ (length (d.whole ++ d.fraction) + power.up) * 10 = pow-suc 10 (length (d.whole ++ d.fraction) + power.up) in
        let most : 10 ^ suc (length (d.whole ++ d.fraction) + power.up) ≤ 10 ^ (length d.fraction + power.down) = pow-le-pow_right (omega arith) (omega (arith, long)) in
        let some = ten_power (length (d.whole ++ d.fraction) + power.up) in
        omega (arith, more, sum, step, most, some)

cut_once : (negative : Bool) (size : ℕ) → saturated negative (min size (2 ^ 64 - 1)) ≡ saturated negative size
cut_once true size =
    let e : min (min size (2 ^ 64 - 1)) (2 ^ 63) ≡ min size (2 ^ 63) = omega arith in
    ap (λ n. neg_ℤ (pos n)) e
cut_once false size =
    let e : min (min size (2 ^ 64 - 1)) (2 ^ 63 - 1) ≡ min size (2 ^ 63 - 1) = omega arith in
    ap pos e

-- what the code rounded is the number of the decimal
pub rounded_found : (d : Decimal) (power : Power) (size : ℕ) (r : ℤ) → list_all is_ascii_digit (digits_of d) ≡ true → size ≡ min (size_of d power) (2 ^ 64 - 1) → r ≡ saturated d.negative size → r ≡ number_of d power
unfolding number_of
rounded_found d power size r digits e f =
    f ∙ ap (saturated d.negative) e ∙ cut_once d.negative (size_of d power) ∙ ap (saturated d.negative) (size_is d power digits)

-- a whole number is that of its digits
pub whole_value : (text : List ℕ) (n : ℕ) → n ≡ number_of_digits text → n < 2 ^ 63 → pos n ≡ number_of (record { negative = false; whole = text; fraction = [] }) (record { up = 0; down = 0 })
unfolding number_of
whole_value text n e small =
    let whole : number_of_digits (text ++ []) ≡ n = rw (append-nil text) (sym e) in
    let value : (2 * (number_of_digits (text ++ []) * 10 ^ 0) + 10 ^ 0 - 0) / (2 * 10 ^ 0) ≡ n =
    quotient (2 * (number_of_digits (text ++ []) * 10 ^ 0) + 10 ^ 0 - 0) n (2 * 10 ^ 0) 1 (omega (arith, whole)) (omega arith) in
    let cut : min n (2 ^ 63 - 1) ≡ n = omega arith in
    ap pos (sym (ap (λ v. min v (2 ^ 63 - 1)) value ∙ cut))

-- a test on the digits of both parts of a decimal from a place on
drop_parts : (xs ys : List ℕ) (n : ℕ) → drop n (xs ++ ys) ≡ drop n xs ++ drop (n - length xs) ys
drop_parts [] ys zero = refl
drop_parts [] ys (suc n) = let all : suc n ≡ suc n - 0 = omega arith in ap (λ m. drop m ys) all
drop_parts (x ∷ xs) ys zero = let none : zero ≡ zero - length (x ∷ xs) = omega arith in ap (λ m. (x ∷ xs) ++ drop m ys) none
drop_parts (x ∷ xs) ys (suc n) = let left : n - length xs ≡ suc n - length (x ∷ xs) = omega arith in drop_parts xs ys n ∙ ap (λ m. drop n xs ++ drop m ys) left

pub any_parts : (xs ys : List ℕ) (n : ℕ) → list_any (nat_lt 48) (drop n (xs ++ ys)) ≡ (list_any (nat_lt 48) (drop n xs) || list_any (nat_lt 48) (drop (n - length xs) ys))
any_parts xs ys n = ap (list_any (nat_lt 48)) (drop_parts xs ys n) ∙ list_any-append (nat_lt 48) (drop n xs) (drop (n - length xs) ys)

pub any_back : (xs ys front back : List ℕ) (n m : ℕ) → front ≡ drop n xs → false ≡ list_any (nat_lt 48) front → m ≡ n - length xs → back ≡ drop m ys → list_any (nat_lt 48) back ≡ list_any (nat_lt 48) (drop n (xs ++ ys))
any_back xs ys front back n m e f g h =
    let none : list_any (nat_lt 48) (drop n xs) ≡ false = sym (ap (list_any (nat_lt 48)) e) ∙ sym f in
    ap (list_any (nat_lt 48)) h ∙ ap (λ k. list_any (nat_lt 48) (drop k ys)) g ∙ sym (any_parts xs ys n ∙ rw none refl)

-- all the digits of a front, and of a whole

pub leading_front : (xs ys : List ℕ) → leading (xs ++ ys) (length xs) ≡ number_of_digits xs
leading_front xs ys =
    let within : length xs ≤ length (xs ++ ys) + 0 = omega (arith, length-append xs ys) in
    leading_is (xs ++ ys) 0 (length xs) within
    ∙ ap number_of_digits (ap (take (length xs)) (append-nil (xs ++ ys)) ∙ take-append_seam xs ys)

pub leading_all : (xs : List ℕ) → leading xs (length xs) ≡ number_of_digits xs
leading_all xs = ap (λ v. leading v (length xs)) (sym (append-nil xs)) ∙ leading_front xs []
