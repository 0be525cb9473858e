-- Numbers and sizes as texts, and the whole number that each is rounded to.
use Rattle.std.specs.Prelude.{◌≡◌, ℕ, ◌+◌, ◌-◌, ◌*◌, ◌/◌, ◌^◌, ◌≤◌, ◌⊎◌, Bool, not, ◌&&◌, ◌||◌, ◌==◌, nat_le, if◌then◌else◌, List, [], ◌∷◌, ◌++◌, length, codes, Option, Some, None, min, ℤ, pos, neg_ℤ}
use Rattle.std.specs.List.{list_all}
use Rattle.std.specs.Char.{is_ascii_digit}
use Rattle.std.specs.Option.{option_and_then, option_map}
use Rattle.std.specs.Str.{bytes_eq}
use Rattle.fx_text.specs.Characters.{capital_e, small_e}
use Rattle.fx_text.specs.Digits.{IsDigits, number_of_digits}
use Rattle.fx_look.specs.Decimals.{Decimal, IsDecimal, IsSign, decimal_at, is_minus, behind_sign}

-- a power of ten: ten to the power up - down, one of which is 0
pub record Power : Type 0 where
  pub up : ℕ
  pub down : ℕ

-- nothing, or `e` or `E` with an optional sign and one to three digits
pub record IsExponent (text : List ℕ) (power : Power) : Type 0 where
  pub mark : ℕ
  pub sign : List ℕ
  pub digits : List ℕ
  pub negative : Bool
  pub parts : text ≡ mark ∷ (sign ++ digits)
  pub is_mark : (mark ≡ capital_e) ⊎ (mark ≡ small_e)
  pub is_sign : IsSign sign negative
  pub is_digits : IsDigits digits
  pub few : length digits ≤ 3
  pub size : power
      ≡ (if negative then record { up = 0; down = number_of_digits digits }
      else record { up = number_of_digits digits; down = 0 })

abbrev pub one : Power
one = record { up = 0; down = 0 }

abbrev pub IsPower : List ℕ → Power → Type 0
IsPower text power = ((text ≡ []) × (power ≡ one)) ⊎ IsExponent text power

-- a decimal times a power of ten is the fraction above / below
abbrev pub above : Decimal → Power → ℕ
above d power = number_of_digits (d.whole ++ d.fraction) * 10 ^ power.up

abbrev pub below : Decimal → Power → ℕ
below d power = 10 ^ (length d.fraction + power.down)

-- the size of the fraction above / below, with its sign rounded half up, which is towards the greater number
abbrev pub rounded : Bool → ℕ → ℕ → ℕ
rounded negative above below = (2 * above + below - (if negative then 1 else 0)) / (2 * below)

-- a number by its sign and size, or the end of 64 bits that it passes
abbrev pub saturated : Bool → ℕ → ℤ
saturated negative size = if negative then neg_ℤ (pos (min size (2 ^ 63))) else pos (min size (2 ^ 63 - 1))

unfoldable pub number_of : Decimal → Power → ℤ
number_of d power = saturated d.negative (rounded d.negative (above d power) (below d power))

abbrev pub greatest : ℤ
greatest = pos (2 ^ 63 - 1)

abbrev pub least : ℤ
least = neg_ℤ (pos (2 ^ 63))

abbrev pub IsUnbounded : List ℕ → ℤ → Type 0
IsUnbounded text n = ((text ≡ codes "Infinity") × (n ≡ greatest)) ⊎ ((text ≡ codes "-Infinity") × (n ≡ least))

pub record IsBounded (text : List ℕ) (n : ℤ) : Type 0 where
  pub digits : List ℕ
  pub decimal : Decimal
  pub exponent : List ℕ
  pub power : Power
  pub parts : text ≡ digits ++ exponent
  pub is_decimal : IsDecimal digits decimal
  pub is_power : IsPower exponent power
  pub value : n ≡ number_of decimal power

-- the number that a text spells
abbrev pub IsNumber : List ℕ → ℤ → Type 0
IsNumber text n = IsUnbounded text n ⊎ IsBounded text n

pub record IsPlain (text : List ℕ) (n : ℤ) : Type 0 where
  pub decimal : Decimal
  pub is_decimal : IsDecimal text decimal
  pub value : n ≡ number_of decimal one

-- the size that a text spells: a number without exponent, optionally with `px` behind it
pub record IsSize (text : List ℕ) (n : ℤ) : Type 0 where
  pub number : List ℕ
  pub unit : List ℕ
  pub parts : text ≡ number ++ unit
  pub is_number : IsUnbounded number n ⊎ IsPlain number n
  pub is_unit : (unit ≡ []) ⊎ (unit ≡ codes "px")

-- the reading

abbrev pub few_digits : List ℕ → Option ℕ
few_digits (a ∷ []) = Some (number_of_digits (a ∷ []))
few_digits (a ∷ b ∷ []) = Some (number_of_digits (a ∷ b ∷ []))
few_digits (a ∷ b ∷ c ∷ []) = Some (number_of_digits (a ∷ b ∷ c ∷ []))
few_digits _ = None

abbrev pub exponent_at : List ℕ → Option ℕ
exponent_at digits = if list_all is_ascii_digit digits then few_digits digits else None

abbrev pub power_of : Bool → ℕ → Power
power_of negative size = if negative then record { up = 0; down = size } else record { up = size; down = 0 }

abbrev pub power_at : List ℕ → Option Power
power_at [] = Some one
power_at (c ∷ cs) =
    if c == capital_e || c == small_e then option_map (power_of (is_minus cs)) (exponent_at (behind_sign cs)) else None

abbrev pub with_power : Decimal × List ℕ → Option ℤ
with_power p = option_map (number_of p.0) (power_at p.1)

abbrev pub number_at : List ℕ → Option ℤ
number_at text =
    if bytes_eq text (codes "Infinity") then Some greatest
    else (if bytes_eq text (codes "-Infinity") then Some least else option_and_then with_power (decimal_at text))

abbrev pub with_unit : Decimal × List ℕ → Option ℤ
with_unit p = if bytes_eq p.1 [] || bytes_eq p.1 (codes "px") then Some (number_of p.0 one) else None

abbrev pub size_at : List ℕ → Option ℤ
size_at text =
    if bytes_eq text (codes "Infinity") || bytes_eq text (codes "Infinitypx") then Some greatest
    else (if bytes_eq text (codes "-Infinity") || bytes_eq text (codes "-Infinitypx") then Some least
    else option_and_then with_unit (decimal_at text))

-- sizes that need no rounding: one to nine digits
abbrev pub is_short_whole : List ℕ → Bool
is_short_whole text = not (length text == 0) && (nat_le (length text) 9 && list_all is_ascii_digit text)
