-- The number that decimal digits write.
use Rattle.std.specs.Prelude.{◌≢◌, ℕ, ◌+◌, ◌-◌, ◌*◌, ◌^◌, List, [], ◌∷◌, length, min, IsTrue}
use Rattle.std.specs.Char.{is_ascii_digit}
use Rattle.std.specs.List.{list_all}
use Rattle.fx_text.specs.Characters.{digit_zero}

-- at least one digit and nothing else
pub record IsDigits (text : List ℕ) : Type 0 where
  pub digits : IsTrue (list_all is_ascii_digit text)
  pub some : text ≢ []

abbrev pub number_of_digits : List ℕ → ℕ
number_of_digits [] = 0
number_of_digits (c ∷ cs) = (c - digit_zero) * 10 ^ length cs + number_of_digits cs

-- a number as far as 32 bits hold it
abbrev pub capped : ℕ → ℕ
capped number = min number (2 ^ 32 - 1)

-- the number of these digits behind those of another
abbrev pub number_behind : ℕ → List ℕ → ℕ
number_behind n [] = n
number_behind n (c ∷ cs) = number_behind (n * 10 + (c - digit_zero)) cs
