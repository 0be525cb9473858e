-- Colours as texts: first the grammar, by cases on the text, then the reading.
use Rattle.std.specs.Prelude.{◌≡◌, ℕ, ◌+◌, ◌*◌, ◌/◌, ◌^◌, ◌≤◌, Bool, ◌==◌, nat_lt, if◌then◌else◌, List, [], ◌∷◌, ◌++◌, length, codes, Option, Some, None, IsTrue, min}
use Rattle.std.specs.List.{list_all, find, Contains}
use Rattle.std.specs.Option.{option_and_then, option_map, option_map_or}
use Rattle.std.specs.Str.{bytes_eq, str_to_ascii_lowercase}
use Rattle.fx_base.specs.Pixel.{red_of, green_of, blue_of}
use Rattle.fx_base.specs.declared.color.Color.{Color}
use Rattle.fx_text.specs.Characters.{comma, number_sign, right_parenthesis}
use Rattle.fx_text.specs.Classes.{hex_value}
use Rattle.fx_text.specs.Digits.{number_of_digits}
use Rattle.fx_text.specs.Fronts.{behind}
use Rattle.fx_text.specs.Classes.{is_white}
use Rattle.fx_look.specs.Decimals.{Decimal, IsDecimal, decimal_at}
use Rattle.fx_look.specs.ColorNames.{names}

abbrev pub color : ℕ → ℕ → ℕ → ℕ → Color
color r g b a = record { r = r; g = g; b = b; a = a }

-- the opaque colour of a pixel 0x00RRGGBB
abbrev pub solid : ℕ → Color
solid pixel = color (red_of pixel) (green_of pixel) (blue_of pixel) 255

-- the two are one text in any case of ASCII letters
abbrev pub same_letters : List ℕ → List ℕ → Bool
same_letters a b = bytes_eq (str_to_ascii_lowercase a) (str_to_ascii_lowercase b)

pub record IsNamed (text : List ℕ) (c : Color) : Type 0 where
  pub name : List ℕ
  pub pixel : ℕ
  pub listed : Contains names (name, pixel)
  pub same : IsTrue (same_letters name text)
  pub value : c ≡ solid pixel

abbrev pub IsHexDigit : ℕ → ℕ → Type 0
IsHexDigit c value = hex_value c ≡ Some value

-- `#rgb`, `#rrggbb` and `#rrggbbaa`; in the first each digit counts twice
pub data IsHex : List ℕ → Color → Type 0 where
  short : (x y z r g b : ℕ) → IsHexDigit x r → IsHexDigit y g → IsHexDigit z b
      → IsHex (number_sign ∷ x ∷ y ∷ z ∷ []) (color (17 * r) (17 * g) (17 * b) 255)
  long : (x0 x1 y0 y1 z0 z1 r0 r1 g0 g1 b0 b1 : ℕ)
      → IsHexDigit x0 r0 → IsHexDigit x1 r1 → IsHexDigit y0 g0 → IsHexDigit y1 g1
      → IsHexDigit z0 b0 → IsHexDigit z1 b1
      → IsHex (number_sign ∷ x0 ∷ x1 ∷ y0 ∷ y1 ∷ z0 ∷ z1 ∷ [])
      (color (16 * r0 + r1) (16 * g0 + g1) (16 * b0 + b1) 255)
  shared : (x0 x1 y0 y1 z0 z1 w0 w1 r0 r1 g0 g1 b0 b1 a0 a1 : ℕ)
      → IsHexDigit x0 r0 → IsHexDigit x1 r1 → IsHexDigit y0 g0 → IsHexDigit y1 g1
      → IsHexDigit z0 b0 → IsHexDigit z1 b1 → IsHexDigit w0 a0 → IsHexDigit w1 a1
      → IsHex (number_sign ∷ x0 ∷ x1 ∷ y0 ∷ y1 ∷ z0 ∷ z1 ∷ w0 ∷ w1 ∷ [])
      (color (16 * r0 + r1) (16 * g0 + g1) (16 * b0 + b1) (16 * a0 + a1))

-- a decimal with white around it, as the arguments of `rgb` and `rgba` are
pub record IsArgument (text : List ℕ) (d : Decimal) : Type 0 where
  pub before : List ℕ
  pub digits : List ℕ
  pub after : List ℕ
  pub parts : text ≡ before ++ (digits ++ after)
  pub is_decimal : IsDecimal digits d
  pub white_before : IsTrue (list_all is_white before)
  pub white_after : IsTrue (list_all is_white after)

-- a whole number, clamped to 0 to 255
pub record IsChannel (text : List ℕ) (channel : ℕ) : Type 0 where
  pub number : Decimal
  pub is_argument : IsArgument text number
  pub whole : number.fraction ≡ []
  pub value : channel ≡ (if number.negative then 0 else min 255 (number_of_digits number.whole))

-- a number of at most nine decimals, clamped to 0 to 1, times 255, rounded half up
pub record IsOpacity (text : List ℕ) (opacity : ℕ) : Type 0 where
  pub number : Decimal
  pub is_argument : IsArgument text number
  pub few : length number.fraction ≤ 9
  pub value :
      let below = 10 ^ length number.fraction in
      let above = if number.negative then 0 else min (number_of_digits (number.whole ++ number.fraction)) below in
      opacity ≡ (2 * (255 * above) + below) / (2 * below)

-- `rgb(r,g,b)`
pub record IsRgb (text : List ℕ) (c : Color) : Type 0 where
  pub red : List ℕ
  pub green : List ℕ
  pub blue : List ℕ
  pub parts : text ≡ codes "rgb(" ++ (red ++ (comma ∷ (green ++ (comma ∷ (blue ++ codes ")")))))
  pub is_red : IsChannel red c.r
  pub is_green : IsChannel green c.g
  pub is_blue : IsChannel blue c.b
  pub opaque : c.a ≡ 255

-- `rgba(r,g,b,a)`
pub record IsRgba (text : List ℕ) (c : Color) : Type 0 where
  pub red : List ℕ
  pub green : List ℕ
  pub blue : List ℕ
  pub opacity : List ℕ
  pub parts : text
      ≡ codes "rgba(" ++ (red ++ (comma ∷ (green ++ (comma ∷ (blue ++ (comma ∷ (opacity ++ codes ")")))))))
  pub is_red : IsChannel red c.r
  pub is_green : IsChannel green c.g
  pub is_blue : IsChannel blue c.b
  pub is_opacity : IsOpacity opacity c.a

abbrev pub IsTransparent : List ℕ → Color → Type 0
IsTransparent text c = (text ≡ codes "transparent") × (c ≡ color 0 0 0 0)

-- the colour that a text spells
pub data IsColor (text : List ℕ) (c : Color) : Type 0 where
  hexadecimal : IsHex text c → IsColor text c
  rgb : IsRgb text c → IsColor text c
  rgba : IsRgba text c → IsColor text c
  transparent : IsTransparent text c → IsColor text c
  named : IsNamed text c → IsColor text c

-- the reading

-- what the first entry of this name has
abbrev pub entry_at : List (List ℕ × ℕ) → List ℕ → Option ℕ
entry_at table name = option_map (λ e. e.1) (find (λ e. same_letters e.0 name) table)

-- what is behind a front, if the text begins with it
abbrev pub strip : List ℕ → List ℕ → Option (List ℕ)
strip [] text = Some text
strip (p ∷ ps) [] = None
strip (p ∷ ps) (c ∷ cs) = if c == p then strip ps cs else None

unfoldable pub pair_value : ℕ → ℕ → Option ℕ
pair_value x y = option_and_then (λ high. option_map (λ low. 16 * high + low) (hex_value y)) (hex_value x)

unfoldable pub twice_value : ℕ → Option ℕ
twice_value x = option_map (λ value. 17 * value) (hex_value x)

unfoldable pub three : Option ℕ → Option ℕ → Option ℕ → ℕ → Option Color
three red green blue a =
    option_and_then (λ r. option_and_then (λ g. option_map (λ b. color r g b a) blue) green) red

abbrev pub hex_at : List ℕ → Option Color
hex_at (x ∷ y ∷ z ∷ []) = three (twice_value x) (twice_value y) (twice_value z) 255
hex_at (x0 ∷ x1 ∷ y0 ∷ y1 ∷ z0 ∷ z1 ∷ []) = three (pair_value x0 x1) (pair_value y0 y1) (pair_value z0 z1) 255
hex_at (x0 ∷ x1 ∷ y0 ∷ y1 ∷ z0 ∷ z1 ∷ w0 ∷ w1 ∷ []) =
    option_and_then (three (pair_value x0 x1) (pair_value y0 y1) (pair_value z0 z1)) (pair_value w0 w1)
hex_at _ = None

abbrev pub before_mark : ℕ → Decimal → List ℕ → Option (Decimal × List ℕ)
before_mark mark d [] = None
before_mark mark d (c ∷ cs) = if c == mark then Some (d, cs) else None

-- a decimal with white around it in front of a mark, and what is behind the mark
abbrev pub argument_at : ℕ → List ℕ → Option (Decimal × List ℕ)
argument_at mark text =
    option_and_then (λ p. before_mark mark p.0 (behind is_white p.1)) (decimal_at (behind is_white text))

abbrev pub channel_value : Decimal → Option ℕ
channel_value d =
    if nat_lt 0 (length d.fraction) then None
    else Some (if d.negative then 0 else min 255 (number_of_digits d.whole))

abbrev pub opacity_value : Decimal → Option ℕ
opacity_value d = if nat_lt 9 (length d.fraction) then None
    else (let below = 10 ^ length d.fraction in
    let above = if d.negative then 0 else min (number_of_digits (d.whole ++ d.fraction)) below in
    Some ((2 * (255 * above) + below) / (2 * below)))

abbrev pub channel_at : ℕ → List ℕ → Option (ℕ × List ℕ)
channel_at mark text =
    option_and_then (λ p. option_map (λ channel. (channel, p.1)) (channel_value p.0)) (argument_at mark text)

abbrev pub opacity_at : ℕ → List ℕ → Option (ℕ × List ℕ)
opacity_at mark text =
    option_and_then (λ p. option_map (λ opacity. (opacity, p.1)) (opacity_value p.0)) (argument_at mark text)

abbrev pub ended : Color → List ℕ → Option Color
ended c [] = Some c
ended c (x ∷ xs) = None

abbrev pub rgb_at : List ℕ → Option Color
rgb_at text =
    option_and_then (λ r. option_and_then (λ g. option_and_then (λ b.
    ended (color r.0 g.0 b.0 255) b.1)
    (channel_at right_parenthesis g.1)) (channel_at comma r.1)) (channel_at comma text)

abbrev pub rgba_at : List ℕ → Option Color
rgba_at text =
    option_and_then (λ r. option_and_then (λ g. option_and_then (λ b. option_and_then (λ a.
    ended (color r.0 g.0 b.0 a.0) a.1)
    (opacity_at right_parenthesis b.1)) (channel_at comma g.1)) (channel_at comma r.1)) (channel_at comma text)

abbrev pub word_at : List ℕ → Option Color
word_at text =
    if bytes_eq text (codes "transparent") then Some (color 0 0 0 0) else option_map solid (entry_at names text)

abbrev pub color_at : List ℕ → Option Color
color_at text =
    option_map_or hex_at (strip (codes "#") text)
    (option_map_or rgb_at (strip (codes "rgb(") text)
    (option_map_or rgba_at (strip (codes "rgba(") text) (word_at text)))
