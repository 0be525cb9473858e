-- Numbers as text are read as what they are, and have neither white nor line feeds in them.
use Rattle.std.proofs.Common.{◌≡◌, ◌<◌, ◌≤◌, ◌+◌, ◌*◌, ◌/◌, ◌%◌, ◌^◌, ℕ, zero, suc, Bool, true, false, cond, not, ◌&&◌, ◌||◌, eqb, ltb, leb, List, [], ◌∷◌, ◌++◌, length, get_or, Some, None, All, refl, ap, ◌∙◌, inl, inr, arith}
use Rattle.std.specs.Char.{is_ascii_digit}
use Rattle.std.specs.Fmt.{decimal}
use Rattle.std.specs.List.{list_all}
use Rattle.std.proofs.lemmas.Bool.{and_parts, cases_Bool, eqb-true, lt-ltb, ltb-true, leb-true, ne_eqb}
use Rattle.std.proofs.lemmas.Bool.Decides.{nat_tests}
use Rattle.std.proofs.lemmas.Fmt.{decimal_by_steps, decimal_digit, decimal_nonempty, first_decimal}
use Rattle.std.proofs.lemmas.List.Elements.{All-cons, All-nil}
use Rattle.std.proofs.lemmas.List.Folds.{list_all-append}
use Rattle.fx_text.specs.Digits.{number_of_digits}
use Rattle.fx_text.proofs.DigitLemmas.{number-append}
use Rattle.fx_delta.specs.Lines.{is_number, number_of}

-- digits, which write this number
IsWritten : ℕ → List ℕ → Type 0
IsWritten n ds = (list_all is_ascii_digit ds ≡ true) × (number_of_digits ds ≡ n)

digit_is : (n : ℕ) → n < 10 → is_ascii_digit (48 + n) ≡ true
digit_is n h = grind (arith, nat_tests)

one_digit : (n : ℕ) → n < 10 → IsWritten n ((48 + n) ∷ [])
unfolding IsWritten
one_digit n h = (ap (λ (t : Bool). t && true) (digit_is n h), omega arith)

one_more : (n : ℕ) (ds : List ℕ) → 10 ≤ n → IsWritten (n / 10) ds → IsWritten n (ds ++ ((48 + n % 10) ∷ []))
unfolding IsWritten
one_more n ds h before =
    let digit : is_ascii_digit (48 + n % 10) ≡ true = digit_is (n % 10) (omega arith) in
    let value : number_of_digits (ds ++ ((48 + n % 10) ∷ [])) ≡ number_of_digits ds * 10 + n % 10 =
    number-append ds ((48 + n % 10) ∷ []) ∙ omega arith in (
      list_all-append is_ascii_digit ds ((48 + n % 10) ∷ [])
          ∙ ap (λ (t : Bool). t && (is_ascii_digit (48 + n % 10) && true)) before.0
          ∙ ap (λ (t : Bool). t && true) digit,
      value ∙ omega (arith, before.1),
    )

written : (n : ℕ) → n < 2 ^ 64 → IsWritten n (decimal n)
written n h = decimal_by_steps IsWritten one_digit one_more n h

is_number-digits : (ds : List ℕ) → list_all is_ascii_digit ds ≡ true → 0 < length ds
    → (get_or ds 0 0 ≡ 48 → length ds ≡ 1) → is_number ds ≡ true
is_number-digits [] digits some first = absurd (omega (arith, some))
is_number-digits (c ∷ cs) digits some first = elim (cases_Bool (eqb c 48)) [
  | inl zeros ↦
      let none : length cs ≡ 0 = let h : length (c ∷ cs) ≡ 1 = first (eqb-true c 48 zeros) in omega (arith, h) in
      ap (λ (t : Bool). t && (not (eqb c 48) || eqb (length cs) 0)) digits
      ∙ ap (λ (t : Bool). not t || eqb (length cs) 0) zeros
      ∙ ap (λ (n : ℕ). eqb n 0) none
  | inr other ↦
      ap (λ (t : Bool). t && (not (eqb c 48) || eqb (length cs) 0)) digits
      ∙ ap (λ (t : Bool). not t || eqb (length cs) 0) other
]

no_zeros : (n : ℕ) → n < 2 ^ 64 → get_or (decimal n) 0 0 ≡ 48 → length (decimal n) ≡ 1
no_zeros zero h first = ap length (decimal_digit 0 (omega arith))
no_zeros (suc n) h first =
    let above : 48 < get_or (decimal (suc n)) 0 0 = first_decimal (suc n) (omega arith) h in
    absurd (omega (arith, first, above))

pub is_number-decimal : (n : ℕ) → n < 2 ^ 64 → is_number (decimal n) ≡ true
unfolding IsWritten
is_number-decimal n h =
    is_number-digits (decimal n) (written n h).0 (decimal_nonempty n h) (no_zeros n h)

pub number_of-decimal : (n : ℕ) → n < 2 ^ 64 → number_of (decimal n) ≡ Some n
unfolding IsWritten
number_of-decimal n h =
    ap (λ (t : Bool). cond t (Some (number_of_digits (decimal n))) None) (is_number-decimal n h)
    ∙ ap Some (written n h).1

-- all are above this one
abbrev pub are_above : ℕ → List ℕ → Bool
are_above low cs = list_all (ltb low) cs

digits_above : (low : ℕ) → low < 48 → (ds : List ℕ) → list_all is_ascii_digit ds ≡ true → are_above low ds ≡ true
digits_above low h [] e = refl
digits_above low h (d ∷ ds) e =
    let both = and_parts (is_ascii_digit d) (list_all is_ascii_digit ds) e in
    let least = and_parts (leb 48 d) (leb d 57) both.0 in
    let le : 48 ≤ d = leb-true 48 d least.0 in
    ap (λ (t : Bool). t && are_above low ds) (lt-ltb low d (omega (arith, h, le)))
    ∙ digits_above low h ds both.1

pub above-decimal : (low n : ℕ) → low < 48 → n < 2 ^ 64 → are_above low (decimal n) ≡ true
unfolding IsWritten
above-decimal low n h small = digits_above low h (decimal n) (written n small).0

pub above-append : (low : ℕ) (xs ys : List ℕ) → are_above low xs ≡ true → are_above low ys ≡ true
    → are_above low (xs ++ ys) ≡ true
above-append low xs ys a b =
    list_all-append (ltb low) xs ys ∙ ap (λ (t : Bool). t && are_above low ys) a ∙ b

-- above a number there is no number at most it
pub none_at : (low c : ℕ) → c ≤ low → (xs : List ℕ) → are_above low xs ≡ true → All (λ x. eqb x c ≡ false) xs
none_at low c h [] e = All-nil (λ x. eqb x c ≡ false)
none_at low c h (x ∷ xs) e =
    let both = and_parts (ltb low x) (are_above low xs) e in
    let less : low < x = ltb-true low x both.0 in
    All-cons (λ x. eqb x c ≡ false) x xs (ne_eqb x c (λ same. omega (arith, same, less, h))) (none_at low c h xs both.1)
