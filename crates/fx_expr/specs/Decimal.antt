-- Numbers in expressions: digits with an optional fraction, rounded half up.
use Rattle.std.specs.Prelude.{ℕ, ℤ, pos, Bool, false, ◌+◌, ◌-◌, ◌*◌, ◌/◌, ◌^◌, ◌++◌, ◌&&◌, ◌==◌, nat_le, min, length, drop, List, [], ◌∷◌, if◌then◌else◌}
use Rattle.std.specs.Char.{is_ascii_digit}
use Rattle.fx_text.specs.Characters.{digit_five, full_stop}
use Rattle.fx_text.specs.Digits.{number_of_digits}
use Rattle.fx_text.specs.Fronts.{front, behind}

-- the nearest whole number to a quotient, the greater one of two
unfoldable pub rounded : ℕ → ℕ → ℕ
rounded above below = (2 * above + below) / (2 * below)

-- the number of these digits with these behind the point, rounded, at most the greatest of 64 bits
abbrev pub decimal : List ℕ → List ℕ → ℤ
decimal whole fraction =
    pos (min (rounded (number_of_digits (whole ++ fraction)) (10 ^ length fraction)) (2 ^ 63 - 1))

-- does a point with a digit stand here?
abbrev pub has_fraction : List ℕ → Bool
has_fraction [] = false
has_fraction (c ∷ []) = false
has_fraction (c ∷ d ∷ ds) = c == full_stop && is_ascii_digit d

-- the digits of the fraction that stands here, and what is behind it
abbrev pub fraction_digits : List ℕ → List ℕ
fraction_digits text = if has_fraction text then front is_ascii_digit (drop 1 text) else []

abbrev pub fraction_rest : List ℕ → List ℕ
fraction_rest text = if has_fraction text then behind is_ascii_digit (drop 1 text) else text

-- does a fraction of these digits round up?
abbrev pub is_upper : List ℕ → Bool
is_upper [] = false
is_upper (d ∷ ds) = nat_le digit_five d
