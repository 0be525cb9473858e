-- Where a line moves the pointer.
use Rattle.std.specs.Prelude.{ℕ, ℤ, pos, neg_ℤ, Bool, nat_eq, nat_le, List, codes, drop, Option, Some, None, if◌then◌else◌}
use Rattle.std.specs.List.{starts_with}
use Rattle.fx_text.specs.Digits.{number_of_digits}

abbrev pub is_negative : List ℕ → Bool
is_negative word = starts_with nat_eq word (codes "-")

-- the digits of a word, without its sign
abbrev pub digits_of : List ℕ → List ℕ
digits_of word = if is_negative word then drop 1 word else word

abbrev pub signed : Bool → ℕ → ℤ
signed negative size = if negative then neg_ℤ (pos size) else pos size

-- the pixels that a word says, at most 100,000 either way
abbrev pub coordinate_of : List ℕ → Option ℤ
coordinate_of word =
    if nat_le (number_of_digits (digits_of word)) 100000
    then Some (signed (is_negative word) (number_of_digits (digits_of word)))
    else None
