-- Texts of values: first the grammar of each kind, then the reading.
use Rattle.std.specs.Prelude.{◌≡◌, ℕ, ◌≤◌, Bool, true, false, nat_lt, if◌then◌else◌, List, length, codes, Option, Some, None, ℤ, slice_get}
use Rattle.std.specs.List.{position}
use Rattle.std.specs.Option.{option_map}
use Rattle.std.specs.Str.{chars, bytes_eq, str_to_ascii_lowercase}
use Rattle.fx_base.specs.Constants.{constants_of}
use Rattle.fx_base.specs.Printing.{truth_text}
use Rattle.fx_base.specs.declared.color.Color.{Color as Paint}
use Rattle.fx_base.specs.declared.geometry.Sides.{Sides as Insets}
use Rattle.fx_base.specs.declared.kinds.Kind.{Kind}
use Rattle.fx_base.specs.declared.kinds.Kind.TheVariants as kind
use Rattle.fx_base.specs.declared.values.Value.{Value}
use Rattle.fx_base.specs.declared.values.Value.TheVariants.{Int, Bool as Truth, Text, Choice, Color, Sides}
use Rattle.fx_look.specs.Numbers.{IsNumber, number_at}
use Rattle.fx_look.specs.Colors.{IsColor, color_at, same_letters}
use Rattle.fx_look.specs.Insets.{IsSides, sides_at}

-- `true` or `false` in any case of letters
abbrev pub IsTruth : List ℕ → Bool → Type 0
IsTruth text truth = str_to_ascii_lowercase text ≡ truth_text truth

-- the value that a text spells
abbrev pub IsValue : Kind → List ℕ → Value → Type 0
IsValue kind.Int text v = (n : ℤ) × IsNumber text n × (v ≡ Int n)
IsValue kind.Bool text v = (truth : Bool) × IsTruth text truth × (v ≡ Truth truth)
IsValue kind.Text text v = (length (chars text) ≤ 4096) × (v ≡ Text text)
IsValue (kind.Choice family) text v =
    (place : ℕ) × (slice_get (constants_of family) place ≡ Some text) × (v ≡ Choice family place)
IsValue kind.Color text v = (c : Paint) × IsColor text c × (v ≡ Color c)
IsValue kind.Sides text v = (s : Insets) × IsSides IsNumber text s × (v ≡ Sides s)

-- the reading

abbrev pub truth_at : List ℕ → Option Bool
truth_at text =
    if same_letters text (codes "true") then Some true
    else (if same_letters text (codes "false") then Some false else None)

abbrev pub place_of : List (List ℕ) → List ℕ → Option ℕ
place_of constants text = position (λ constant. bytes_eq constant text) constants

abbrev pub text_at : List ℕ → Option Value
text_at text = if nat_lt 4096 (length (chars text)) then None else Some (Text text)

abbrev pub value_at : Kind → List ℕ → Option Value
value_at kind.Int text = option_map Int (number_at text)
value_at kind.Bool text = option_map Truth (truth_at text)
value_at kind.Text text = text_at text
value_at (kind.Choice family) text = option_map (Choice family) (place_of (constants_of family) text)
value_at kind.Color text = option_map Color (color_at text)
value_at kind.Sides text = option_map Sides (sides_at number_at text)
