-- Decimals as texts: an optional sign, digits, and an optional point with digits behind it.
-- First the grammar, then the reading of a decimal that stands in front of a text.
use Rattle.std.specs.Prelude.{◌≡◌, ℕ, ◌⊎◌, Bool, true, false, ◌||◌, ◌==◌, if◌then◌else◌, List, [], ◌∷◌, ◌++◌, codes, Option, Some, None}
use Rattle.std.specs.List.{prefix_len}
use Rattle.std.specs.Char.{is_ascii_digit}
use Rattle.std.specs.Option.{option_and_then, option_map}
use Rattle.fx_text.specs.Characters.{hyphen, plus_sign, full_stop}
use Rattle.fx_text.specs.Digits.{IsDigits}
use Rattle.fx_text.specs.Fronts.{front, behind}

pub record Decimal : Type 0 where
  pub negative : Bool
  pub whole : List ℕ
  pub fraction : List ℕ

-- no sign and `+` are one
abbrev pub IsSign : List ℕ → Bool → Type 0
IsSign text negative =
    ((negative ≡ false) × ((text ≡ []) ⊎ (text ≡ codes "+"))) ⊎ ((negative ≡ true) × (text ≡ codes "-"))

-- nothing, or a point with digits behind it
abbrev pub IsFraction : List ℕ → List ℕ → Type 0
IsFraction text digits = ((text ≡ []) × (digits ≡ [])) ⊎ ((text ≡ full_stop ∷ digits) × IsDigits digits)

pub record IsDecimal (text : List ℕ) (d : Decimal) : Type 0 where
  pub sign : List ℕ
  pub fraction : List ℕ
  pub parts : text ≡ sign ++ (d.whole ++ fraction)
  pub is_sign : IsSign sign d.negative
  pub is_whole : IsDigits d.whole
  pub is_fraction : IsFraction fraction d.fraction

-- the reading

abbrev pub is_minus : List ℕ → Bool
is_minus [] = false
is_minus (c ∷ cs) = c == hyphen

abbrev pub behind_sign : List ℕ → List ℕ
behind_sign [] = []
behind_sign (c ∷ cs) = if c == hyphen || c == plus_sign then cs else c ∷ cs

abbrev pub digits_at : List ℕ → Option (List ℕ × List ℕ)
digits_at text =
    if prefix_len is_ascii_digit text == 0 then None
    else Some (front is_ascii_digit text, behind is_ascii_digit text)

abbrev pub fraction_at : List ℕ → Option (List ℕ × List ℕ)
fraction_at [] = Some ([], [])
fraction_at (c ∷ cs) = if c == full_stop then digits_at cs else Some ([], c ∷ cs)

abbrev pub with_fraction : Bool → List ℕ × List ℕ → Option (Decimal × List ℕ)
with_fraction negative whole =
    option_map (λ fraction. (record { negative = negative; whole = whole.0; fraction = fraction.0 }, fraction.1))
    (fraction_at whole.1)

-- a decimal in front of the text, and what is behind it
abbrev pub decimal_at : List ℕ → Option (Decimal × List ℕ)
decimal_at text = option_and_then (with_fraction (is_minus text)) (digits_at (behind_sign text))
