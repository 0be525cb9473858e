-- The reading of numbers and sizes meets their grammar: it finds one exactly where a text spells it.
use Rattle.std.proofs.Common.{◌≡◌, ℕ, ◌^◌, ◌<◌, ◌≤◌, ◌⊎◌, inl, inr, Bool, true, false, not, ◌&&◌, ◌||◌, ◌==◌, nat_le, List, [], ◌∷◌, ◌++◌, length, codes, Option, Some, None, ℤ, pos, refl, sym, ap, ◌∙◌, arith, append-nil}
use Rattle.std.specs.List.{list_all}
use Rattle.std.specs.Prelude.{IfSome, IfNone}
use Rattle.std.specs.Char.{is_ascii_digit}
use Rattle.std.specs.Str.{bytes_eq}
use Rattle.std.specs.Option.{option_map}
use Rattle.std.proofs.lemmas.Bool.Decides.{nat_tests}
use Rattle.std.proofs.lemmas.Bool.{and_parts}
use Rattle.std.proofs.Math.Nat.{pow-le-pow_right}
use Rattle.fx_text.specs.Digits.{IsDigits, number_of_digits, capped}
use Rattle.fx_text.proofs.DigitLemmas.{number_small}
use Rattle.fx_text.specs.Fronts.{stops}
use Rattle.fx_text.proofs.FrontLemmas.{tells, bytes_tell, or_parts, then_gives, map_gives, bind_gives}
use Rattle.fx_look.specs.Decimals.{Decimal, is_minus, behind_sign, decimal_at}
use Rattle.fx_look.specs.Numbers.{Power, IsExponent, IsPower, IsUnbounded, IsNumber, IsPlain, IsSize, one, number_of, few_digits, exponent_at, power_of, power_at, with_power, number_at, with_unit, size_at, is_short_whole}
use Rattle.fx_look.proofs.RoundingLemmas.{whole_value}
use Rattle.fx_look.proofs.DecimalLemmas.{goes_on, sign_sound, decimal_sound, decimal_complete, sign_complete, begins_digits}

-- exponents

few_sound : (digits : List ℕ) (n : ℕ) → few_digits digits ≡ Some n → (digits ≡ [] → ⊥) × (length digits ≤ 3) × (number_of_digits digits ≡ n)
few_sound [] n e = absurd (cc)
few_sound (a ∷ []) n e = (λ z. absurd (cc), omega arith, cc)
few_sound (a ∷ b ∷ []) n e = (λ z. absurd (cc), omega arith, cc)
few_sound (a ∷ b ∷ c ∷ []) n e = (λ z. absurd (cc), omega arith, cc)
few_sound (a ∷ b ∷ c ∷ d ∷ ds) n e = absurd (cc)

few_complete : (digits : List ℕ) → (digits ≡ [] → ⊥) → length digits ≤ 3 → few_digits digits ≡ Some (number_of_digits digits)
few_complete [] some few = absurd (some refl)
few_complete (a ∷ []) some few = refl
few_complete (a ∷ b ∷ []) some few = refl
few_complete (a ∷ b ∷ c ∷ []) some few = refl
few_complete (a ∷ b ∷ c ∷ d ∷ ds) some few = absurd (omega arith)

exponent_sound : (digits : List ℕ) (n : ℕ) → exponent_at digits ≡ Some n → IsDigits digits × (length digits ≤ 3) × (number_of_digits digits ≡ n)
exponent_sound digits n e =
    let t = then_gives (list_all is_ascii_digit digits) (few_digits digits) n e in
    let f = few_sound digits n t.1 in
    (record { digits = t.0; some = f.0 }, f.1, f.2)

exponent_complete : (digits : List ℕ) → IsDigits digits → length digits ≤ 3 → exponent_at digits ≡ Some (number_of_digits digits)
exponent_complete digits d few = rw d.digits (few_complete digits d.some few)

power_mark : (c : ℕ) (cs : List ℕ) (power : Power) → (c ≡ 69) ⊎ (c ≡ 101) → option_map (power_of (is_minus cs)) (exponent_at (behind_sign cs)) ≡ Some power → IsExponent (c ∷ cs) power
power_mark c cs power m e =
    let q = map_gives (power_of (is_minus cs)) (exponent_at (behind_sign cs)) power e in
    let x = exponent_sound (behind_sign cs) q.0 q.1 in
    let s = sign_sound cs in
    record {
      mark = c;
      sign = s.sign;
      digits = behind_sign cs;
      negative = is_minus cs;
      parts = ap (λ v. c ∷ v) s.parts;
      is_mark = m;
      is_sign = s.is_sign;
      is_digits = x.0;
      few = x.1;
      size = sym q.2 ∙ ap (power_of (is_minus cs)) (sym x.2);
    }

power_sound : (text : List ℕ) (power : Power) → power_at text ≡ Some power → IsPower text power
power_sound [] power e = inl (refl, cc)
power_sound (c ∷ cs) power e =
    let t = then_gives (c == 69 || c == 101) (option_map (power_of (is_minus cs)) (exponent_at (behind_sign cs))) power e in
    elim (or_parts (c == 69) (c == 101) t.0) [
      | inl m ↦ inr (power_mark c cs power (inl (grind (arith, nat_tests))) t.1)
      | inr m ↦ inr (power_mark c cs power (inr (grind (arith, nat_tests))) t.1)
    ]

marked : (mark : ℕ) (signed digits : List ℕ) (negative : Bool) (power : Power) → (mark ≡ 69) ⊎ (mark ≡ 101) → is_minus signed ≡ negative → behind_sign signed ≡ digits → exponent_at digits ≡ Some (number_of_digits digits) → power ≡ power_of negative (number_of_digits digits) → power_at (mark ∷ signed) ≡ Some power
marked mark signed digits negative power (inl m) a b x p = rw (m, a, b, x, p) refl
marked mark signed digits negative power (inr m) a b x p = rw (m, a, b, x, p) refl

power_complete : (text : List ℕ) (power : Power) → IsPower text power → power_at text ≡ Some power
power_complete text power (inl (e, f)) = rw (e, f) refl
power_complete text power (inr i) =
    let start = begins_digits i.digits [] i.is_digits in
    let s = sign_complete i.sign (i.digits ++ []) i.negative i.is_sign start in
    let whole : i.digits ++ [] ≡ i.digits = append-nil i.digits in
    rw i.parts (marked i.mark (i.sign ++ i.digits) i.digits i.negative power i.is_mark
    (ap (λ v. is_minus (i.sign ++ v)) (sym whole) ∙ s.0)
    (ap (λ v. behind_sign (i.sign ++ v)) (sym whole) ∙ s.1 ∙ whole)
    (exponent_complete i.digits i.is_digits i.few) i.size)

power_stops : (text : List ℕ) (power : Power) → IsPower text power → stops goes_on text ≡ true
power_stops text power (inl (e, f)) = rw e refl
power_stops text power (inr i) = by_mark i.is_mark
  where
    by_mark : (i.mark ≡ 69) ⊎ (i.mark ≡ 101) → stops goes_on text ≡ true
    by_mark (inl m) = rw (i.parts, m) refl
    by_mark (inr m) = rw (i.parts, m) refl

-- a word that begins no decimal isn't a text that begins with one
not_word : (text word : List ℕ) (p : Decimal × List ℕ) → decimal_at word ≡ None → decimal_at text ≡ Some p → bytes_eq text word ≡ false
not_word text word p w t = elim (bytes_tell text word) [ inl e ↦ absurd (let f : decimal_at text ≡ None = ap decimal_at e.1 ∙ w in cc) | inr e ↦ e ]

-- numbers

pub number_sound : (text : List ℕ) (n : ℤ) → number_at text ≡ Some n → IsNumber text n
number_sound text n e = elim (bytes_tell text (codes "Infinity")) [
  | inl t ↦ let f = rw t.0 at e in inl (inl (t.1, cc))
  | inr t ↦ let f = rw t at e in elim (bytes_tell text (codes "-Infinity")) [
    | inl u ↦ let g = rw u.0 at f in inl (inr (u.1, cc))
    | inr u ↦ let g = rw u at f in
        let d = bind_gives with_power (decimal_at text) n g in
        let r = decimal_sound text d.0 d.1 in
        let p = map_gives (number_of d.0.0) (power_at d.0.1) n d.2 in
        inr (record {
          digits = r.digits;
          decimal = d.0.0;
          exponent = d.0.1;
          power = p.0;
          parts = r.parts;
          is_decimal = r.is_decimal;
          is_power = power_sound d.0.1 p.0 p.1;
          value = sym p.2;
        })
  ]
]

pub number_complete : (text : List ℕ) (n : ℤ) → IsNumber text n → number_at text ≡ Some n
number_complete text n (inl (inl (t, v))) = rw (t, v) refl
number_complete text n (inl (inr (t, v))) = rw (t, v) refl
number_complete text n (inr i) =
    let d : decimal_at text ≡ Some (i.decimal, i.exponent) = ap decimal_at i.parts ∙ decimal_complete i.digits i.exponent i.decimal i.is_decimal (power_stops i.exponent i.power i.is_power) in
    let a = not_word text (codes "Infinity") (i.decimal, i.exponent) refl d in
    let b = not_word text (codes "-Infinity") (i.decimal, i.exponent) refl d in
    rw (a, b, d, power_complete i.exponent i.power i.is_power, i.value) refl

-- sizes

unit_sound : (p : Decimal × List ℕ) (n : ℤ) → with_unit p ≡ Some n → ((p.1 ≡ []) ⊎ (p.1 ≡ codes "px")) × (n ≡ number_of p.0 one)
unit_sound p n e =
    let t = then_gives (bytes_eq p.1 [] || bytes_eq p.1 (codes "px")) (Some (number_of p.0 one)) n e in
    let v : number_of p.0 one ≡ n = cc in
    elim (or_parts (bytes_eq p.1 []) (bytes_eq p.1 (codes "px")) t.0) [
      | inl a ↦ (inl (same p.1 [] a), sym v)
      | inr a ↦ (inr (same p.1 (codes "px") a), sym v)
    ]
  where
    same : (xs ys : List ℕ) → bytes_eq xs ys ≡ true → xs ≡ ys
    same xs ys a = elim (bytes_tell xs ys) [ inl t ↦ t.1 | inr t ↦ absurd (cc) ]

one_of_two : (text a b : List ℕ) → (bytes_eq text a || bytes_eq text b) ≡ true → (text ≡ a) ⊎ (text ≡ b)
one_of_two text a b e = elim (or_parts (bytes_eq text a) (bytes_eq text b) e) [ inl t ↦ inl (same a t) | inr t ↦ inr (same b t) ]
  where
    same : (ys : List ℕ) → bytes_eq text ys ≡ true → text ≡ ys
    same ys a = elim (bytes_tell text ys) [ inl t ↦ t.1 | inr t ↦ absurd (cc) ]

unbounded_size : (text word : List ℕ) (n : ℤ) → IsUnbounded word n → (text ≡ word) ⊎ (text ≡ word ++ codes "px") → IsSize text n
unbounded_size text word n u (inl t) = record { number = word; unit = []; parts = t ∙ sym (append-nil word); is_number = inl u; is_unit = inl refl }
unbounded_size text word n u (inr t) = record { number = word; unit = codes "px"; parts = t; is_number = inl u; is_unit = inr refl }

pub size_sound : (text : List ℕ) (n : ℤ) → size_at text ≡ Some n → IsSize text n
size_sound text n e = elim (tells (bytes_eq text (codes "Infinity") || bytes_eq text (codes "Infinitypx"))) [
  | inl t ↦ let f = rw t at e in unbounded_size text (codes "Infinity") n (inl (refl, cc)) (one_of_two text (codes "Infinity") (codes "Infinitypx") t)
  | inr t ↦ let f = rw t at e in elim (tells (bytes_eq text (codes "-Infinity") || bytes_eq text (codes "-Infinitypx"))) [
    | inl u ↦ let g = rw u at f in unbounded_size text (codes "-Infinity") n (inr (refl, cc)) (one_of_two text (codes "-Infinity") (codes "-Infinitypx") u)
    | inr u ↦ let g = rw u at f in
        let d = bind_gives with_unit (decimal_at text) n g in
        let r = decimal_sound text d.0 d.1 in
        let w = unit_sound d.0 n d.2 in
        record { number = r.digits; unit = d.0.1; parts = r.parts; is_number = inr (record { decimal = d.0.0; is_decimal = r.is_decimal; value = w.1 }); is_unit = w.0 }
  ]
]

plain_size : (text unit : List ℕ) (d : Decimal) → decimal_at text ≡ Some (d, unit) → with_unit (d, unit) ≡ Some (number_of d one) → size_at text ≡ Some (number_of d one)
plain_size text unit d e w =
    let a = not_word text (codes "Infinity") (d, unit) refl e in
    let b = not_word text (codes "Infinitypx") (d, unit) refl e in
    let x = not_word text (codes "-Infinity") (d, unit) refl e in
    let y = not_word text (codes "-Infinitypx") (d, unit) refl e in
    rw (a, b, x, y, e) w

pub size_complete : (text : List ℕ) (n : ℤ) → IsSize text n → size_at text ≡ Some n
size_complete text n i = ap size_at i.parts ∙ by_parts i.number i.unit i.is_number i.is_unit
  where
    by_parts : (number unit : List ℕ) → IsUnbounded number n ⊎ IsPlain number n → (unit ≡ []) ⊎ (unit ≡ codes "px") → size_at (number ++ unit) ≡ Some n
    by_parts number unit (inl (inl (t, v))) (inl u) = rw (t, u, v) refl
    by_parts number unit (inl (inl (t, v))) (inr u) = rw (t, u, v) refl
    by_parts number unit (inl (inr (t, v))) (inl u) = rw (t, u, v) refl
    by_parts number unit (inl (inr (t, v))) (inr u) = rw (t, u, v) refl
    by_parts number unit (inr p) (inl u) = rw (u, p.value) (plain_size (number ++ []) [] p.decimal (decimal_complete number [] p.decimal p.is_decimal refl) refl)
    by_parts number unit (inr p) (inr u) = rw (u, p.value) (plain_size (number ++ codes "px") (codes "px") p.decimal (decimal_complete number (codes "px") p.decimal p.is_decimal refl) refl)

pub number_found : (text : List ℕ) (o : Option ℤ) → o ≡ number_at text → IfSome o (IsNumber text)
number_found text None e = tt
number_found text (Some n) e = number_sound text n (sym e)

pub number_none : (text : List ℕ) (o : Option ℤ) → o ≡ number_at text → IfNone o ((n : ℤ) → IsNumber text n → ⊥)
number_none text None e = λ n i. let some : None ≡ Some n = e ∙ number_complete text n i in cc
number_none text (Some n) e = tt

pub size_found : (text : List ℕ) (o : Option ℤ) → o ≡ size_at text → IfSome o (IsSize text)
size_found text None e = tt
size_found text (Some n) e = size_sound text n (sym e)

pub size_none : (text : List ℕ) (o : Option ℤ) → o ≡ size_at text → IfNone o ((n : ℤ) → IsSize text n → ⊥)
size_none text None e = λ n i. let some : None ≡ Some n = e ∙ size_complete text n i in cc
size_none text (Some n) e = tt

-- one to nine digits are read as their number
pub short_size : (text : List ℕ) (n : ℕ) → is_short_whole text ≡ true → n ≡ capped (number_of_digits text) → size_at text ≡ Some (pos n)
short_size text n short e =
    let some = and_parts (not (length text == 0)) (nat_le (length text) 9 && list_all is_ascii_digit text) short in
    let few = and_parts (nat_le (length text) 9) (list_all is_ascii_digit text) some.1 in
    let bound : length text ≤ 9 = grind (arith, nat_tests, few.0) in
    let below : number_of_digits text < 10 ^ length text = number_small text few.1 in
    let most : 10 ^ length text ≤ 10 ^ 9 = pow-le-pow_right (omega arith) bound in
    let exact : n ≡ number_of_digits text = omega (arith, e, below, most) in
    let d : Decimal = record { negative = false; whole = text; fraction = [] } in
    size_complete text (pos n) (record {
      number = text;
      unit = [];
      parts = sym (append-nil text);
      is_number = inr (record {
        decimal = d;
        is_decimal = record {
          sign = [];
          fraction = [];
          parts = sym (append-nil text);
          is_sign = inl (refl, inl refl);
          is_whole = record { digits = few.1; some = λ none. not_empty none some.0 };
          is_fraction = inl (refl, refl);
        };
        value = whole_value text n exact (omega (arith, e));
      });
      is_unit = inl refl;
    })
  where
    not_empty : text ≡ [] → not (length text == 0) ≡ true → ⊥
    not_empty none more = let a = rw none at more in cc
