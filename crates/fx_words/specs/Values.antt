-- What the values of the options say, and the number of a demo.
use Rattle.std.specs.Prelude.{ℕ, Bool, false, ◌==◌, ◌&&◌, List, [], ◌∷◌, Option, Some, None, codes, nat_le, not, if◌then◌else◌}
use Rattle.std.specs.Char.{is_ascii_digit}
use Rattle.std.specs.List.{list_all}
use Rattle.std.specs.Str.{bytes_eq}
use Rattle.fx_text.specs.Characters.{digit_zero, small_x}
use Rattle.fx_text.specs.Digits.{number_of_digits}
use Rattle.fx_text.specs.Fronts.{front, behind}
use Rattle.fx_words.specs.declared.runs.Frames.{Frames}
use Rattle.fx_words.specs.declared.runs.Frames.TheVariants.{Text, Ppm, Nothing, Delta}
use Rattle.fx_words.specs.declared.runs.Size.{Size}

-- decimal digits, of which the first is no zero
abbrev pub is_decimal : List ℕ → Bool
is_decimal [] = false
is_decimal (c ∷ cs) = not (c == digit_zero) && list_all is_ascii_digit (c ∷ cs)

-- a number from 1 to the greatest one
unfoldable pub number_up_to : ℕ → List ℕ → Option ℕ
number_up_to most text =
    if is_decimal text && nat_le (number_of_digits text) most then Some (number_of_digits text) else None

abbrev pub before_x : ℕ → Bool
before_x c = not (c == small_x)

abbrev pub sized : Option ℕ → Option ℕ → Option Size
sized None height = None
sized (Some width) None = None
sized (Some width) (Some height) = Some (record { width = width; height = height })

-- the height, behind an `x`
abbrev pub height_of : List ℕ → Option ℕ
height_of [] = None
height_of (x ∷ digits) = number_up_to 2048 digits

-- `WxH`, of 1 to 2,048 pixels each way
unfoldable pub size_of : List ℕ → Option Size
size_of text = sized (number_up_to 2048 (front before_x text)) (height_of (behind before_x text))

unfoldable pub frames_of : List ℕ → Option Frames
frames_of text =
    if bytes_eq text (codes "text") then Some Text
    else (if bytes_eq text (codes "ppm") then Some Ppm
    else (if bytes_eq text (codes "none") then Some Nothing
    else (if bytes_eq text (codes "delta") then Some Delta else None)))
