-- How a value is printed.
use Rattle.std.specs.Prelude.{ℕ, Bool, true, false, List, [], ◌∷◌, ◌++◌, ◌/◌, ◌%◌, ◌==◌, codes, if◌then◌else◌, slice_index_or}
use Rattle.std.specs.List.{flat_map}
use Rattle.std.specs.Fmt.{digit_glyph, signed_decimal}
use Rattle.fx_text.specs.Characters.{backslash, carriage_return, line_feed, number_sign, space}
use Rattle.fx_base.specs.Constants.{constants_of}
use Rattle.fx_base.specs.declared.color.Color.{Color as Paint}
use Rattle.fx_base.specs.declared.geometry.Sides.{Sides as Insets}
use Rattle.fx_base.specs.declared.kinds.Family.{Family}
use Rattle.fx_base.specs.declared.kinds.Kind.{Kind}
use Rattle.fx_base.specs.declared.kinds.Kind.TheVariants as kind
use Rattle.fx_base.specs.declared.values.Value.{Value}
use Rattle.fx_base.specs.declared.values.Value.TheVariants.{Int, Bool as Truth, Text, Choice, Color, Sides}

-- the kind of a value
abbrev pub kind_of : Value → Kind
kind_of (Int n) = kind.Int
kind_of (Truth b) = kind.Bool
kind_of (Text t) = kind.Text
kind_of (Choice family place) = kind.Choice family
kind_of (Color color) = kind.Color
kind_of (Sides sides) = kind.Sides

-- a text alone is held in memory of its own
abbrev pub is_plain : Value → Bool
is_plain (Int n) = true
is_plain (Truth b) = true
is_plain (Text t) = false
is_plain (Choice family place) = true
is_plain (Color color) = true
is_plain (Sides sides) = true

-- a byte of a text: a backslash, a line feed and a carriage return are written as two characters
abbrev pub escaped : ℕ → List ℕ
escaped byte =
    if byte == backslash then codes "\\\\"
    else (if byte == line_feed then codes "\\n"
    else (if byte == carriage_return then codes "\\r" else byte ∷ []))

abbrev pub two_digits : ℕ → List ℕ
two_digits n = digit_glyph false (n / 16) ∷ digit_glyph false (n % 16) ∷ []

-- `#rrggbbaa`
abbrev pub hexadecimal : Paint → List ℕ
hexadecimal c = number_sign ∷ (two_digits c.r ++ (two_digits c.g ++ (two_digits c.b ++ two_digits c.a)))

-- `top right bottom left`
abbrev pub sides_text : Insets → List ℕ
sides_text s =
    signed_decimal s.top ++ (space ∷ (signed_decimal s.right
    ++ (space ∷ (signed_decimal s.bottom ++ (space ∷ signed_decimal s.left)))))

-- the constant at this place of its family
abbrev pub constant_at : Family → ℕ → List ℕ
constant_at family place = slice_index_or (constants_of family) place []

abbrev pub truth_text : Bool → List ℕ
truth_text true = codes "true"
truth_text false = codes "false"

abbrev pub printed : Value → List ℕ
printed (Int n) = signed_decimal n
printed (Truth b) = truth_text b
printed (Text t) = flat_map escaped t
printed (Choice family place) = constant_at family place
printed (Color color) = hexadecimal color
printed (Sides sides) = sides_text sides
