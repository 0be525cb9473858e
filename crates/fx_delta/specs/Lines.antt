-- The lines of a stream of changed rows: what each is written as, and what a line says by its words.
use Rattle.std.specs.Prelude.{ℕ, Bool, false, ◌+◌, ◌*◌, ◌==◌, ◌&&◌, ◌||◌, List, [], ◌∷◌, ◌++◌, Option, Some, None, codes, nat_le, not, length, if◌then◌else◌}
use Rattle.std.specs.Char.{is_ascii_digit}
use Rattle.std.specs.Fmt.{decimal}
use Rattle.std.specs.List.{list_all, slice_split}
use Rattle.std.specs.Option.{option_and_then, option_map}
use Rattle.std.specs.Str.{bytes_eq}
use Rattle.fx_text.specs.Characters.{digit_zero, space}
use Rattle.fx_text.specs.Classes.{hex_value, is_space}
use Rattle.fx_text.specs.Digits.{number_of_digits}
use Rattle.fx_delta.specs.declared.lines.Frame.{Frame}
use Rattle.fx_delta.specs.Pictures.{is_size}
use Rattle.fx_row_text.specs.Rows.{pixels_text}

-- what a row item says: pixels, and where the first of them goes
pub record Item : Type 0 where
  pub x : ℕ
  pub y : ℕ
  pub pixels : List ℕ

-- `row X Y P1 P2 ..`
unfoldable pub item_line : Item → List ℕ
item_line item = codes "row " ++ (decimal item.x ++ (space ∷ (decimal item.y ++ (space ∷ pixels_text item.pixels))))

-- what stands between the single spaces of a line
abbrev pub words : List ℕ → List (List ℕ)
words line = slice_split is_space line

-- decimal digits, without zeros in front of others
abbrev pub is_number : List ℕ → Bool
is_number [] = false
is_number (c ∷ cs) = list_all is_ascii_digit (c ∷ cs) && (not (c == digit_zero) || (length cs == 0))

abbrev pub number_of : List ℕ → Option ℕ
number_of word = if is_number word then Some (number_of_digits word) else None

-- the frame of these numbers, if they may stand in a frame line
abbrev pub frame_of : Option ℕ → Option ℕ → Option ℕ → Option ℕ → Option Frame
frame_of (Some number) (Some width) (Some height) (Some count) =
    if (nat_le 1 number && is_size width height) && nat_le count 16
    then Some (record { width = width; height = height; rectangles = count }) else None
frame_of _ _ _ _ = None

-- `frame N W H damage K`
abbrev pub frame_in : List (List ℕ) → Option Frame
frame_in (word ∷ number ∷ width ∷ height ∷ damage ∷ count ∷ []) =
    if bytes_eq word (codes "frame") && bytes_eq damage (codes "damage")
    then frame_of (number_of number) (number_of width) (number_of height) (number_of count) else None
frame_in _ = None

-- `X Y W H`
abbrev pub is_rectangle : List (List ℕ) → Bool
is_rectangle (x ∷ y ∷ w ∷ h ∷ []) = (is_number x && is_number y) && (is_number w && is_number h)
is_rectangle _ = false

-- the number of two hexadecimal digits, the higher one first
abbrev pub byte_of : ℕ → ℕ → Option ℕ
byte_of high low = option_and_then (λ h. option_map (λ l. 16 * h + l) (hex_value low)) (hex_value high)

-- six hexadecimal digits, in either case of letters
abbrev pub pixel_of : List ℕ → Option ℕ
pixel_of (a ∷ b ∷ c ∷ d ∷ e ∷ f ∷ []) =
    option_and_then (λ red. option_and_then (λ green. option_map (λ blue. red * 65536 + green * 256 + blue)
    (byte_of e f)) (byte_of c d)) (byte_of a b)
pixel_of _ = None

abbrev pub pixels_of : List (List ℕ) → Option (List ℕ)
pixels_of [] = Some []
pixels_of (word ∷ words) =
    option_and_then (λ pixel. option_map (λ more. pixel ∷ more) (pixels_of words)) (pixel_of word)

abbrev pub item_of : Option ℕ → Option ℕ → Option (List ℕ) → Option Item
item_of (Some x) (Some y) (Some pixels) = Some (record { x = x; y = y; pixels = pixels })
item_of _ _ _ = None

-- `row X Y P1 P2 ..`
abbrev pub item_in : List (List ℕ) → Option Item
item_in (word ∷ x ∷ y ∷ pixel ∷ pixels) =
    if bytes_eq word (codes "row") then item_of (number_of x) (number_of y) (pixels_of (pixel ∷ pixels)) else None
item_in _ = None
