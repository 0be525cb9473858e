-- What is made of an instance of a value, and the fields that attributes and property elements give it (Introduction to
-- FXML; JavaFX 21 API, `Insets`, `Font`, `ColumnConstraints`, `RowConstraints`).
use Rattle.std.specs.Prelude.{ℕ, ℤ, pos, negsuc, Bool, List, codes, Option, Some, None, if◌then◌else◌}
use Rattle.std.specs.Str.{bytes_eq}
use Rattle.fx_base.specs.declared.facts.Track.{Track as Lane}
use Rattle.fx_base.specs.declared.geometry.Sides.{Sides as Lengths}
use Rattle.fx_base.specs.declared.kinds.Family.TheVariants as family
use Rattle.fx_base.specs.declared.kinds.Kind.{Kind}
use Rattle.fx_base.specs.declared.kinds.Kind.TheVariants as kind
use Rattle.fx_base.specs.declared.values.Value.{Value}
use Rattle.fx_base.specs.declared.values.Value.TheVariants as value
use Rattle.fx_kinds.specs.declared.classes.Class.{Class}
use Rattle.fx_kinds.specs.declared.classes.Class.TheVariants as class
use Rattle.fx_look.specs.Insets.{sides}
use Rattle.fx_scene_flaws.specs.declared.flaws.Flaw.TheVariants as flaw
use Rattle.fx_scene_instances.specs.declared.fields.Field.{Field}
use Rattle.fx_scene_instances.specs.declared.fields.Field.TheVariants as field
use Rattle.fx_scene_instances.specs.declared.made.Made.{Made}
use Rattle.fx_scene_instances.specs.declared.made.Made.TheVariants.{Location, Plain, Track}
use Rattle.fx_scene_values.specs.Values.{literal}
use Rattle.fx_scene_values.specs.declared.values.Given.{Given}
use Rattle.fx_scene_values.specs.declared.values.Given.TheVariants as given

-- fields by their names

abbrev pub side_named : List ℕ → Option Field
side_named name =
    if bytes_eq name (codes "top") then Some field.Top
    else (if bytes_eq name (codes "right") then Some field.Right
    else (if bytes_eq name (codes "bottom") then Some field.Bottom
    else (if bytes_eq name (codes "left") then Some field.Left else None)))

abbrev pub size_named : List ℕ → Option Field
size_named name = if bytes_eq name (codes "size") then Some field.Size else None

abbrev pub column_named : List ℕ → Option Field
column_named name =
    if bytes_eq name (codes "hgrow") then Some field.Grow
    else (if bytes_eq name (codes "minWidth") then Some field.Least
    else (if bytes_eq name (codes "prefWidth") then Some field.Preferred
    else (if bytes_eq name (codes "maxWidth") then Some field.Greatest
    else (if bytes_eq name (codes "halignment") then Some field.Align else None))))

abbrev pub row_named : List ℕ → Option Field
row_named name =
    if bytes_eq name (codes "vgrow") then Some field.Grow
    else (if bytes_eq name (codes "minHeight") then Some field.Least
    else (if bytes_eq name (codes "prefHeight") then Some field.Preferred
    else (if bytes_eq name (codes "maxHeight") then Some field.Greatest
    else (if bytes_eq name (codes "valignment") then Some field.Align else None))))

-- the field of this name of an instance of the class
abbrev pub field_named : Class → List ℕ → Option Field
field_named class.Insets name = side_named name
field_named class.Font name = size_named name
field_named class.ColumnConstraints name = column_named name
field_named class.RowConstraints name = row_named name
field_named _ name = None

abbrev pub align_kind : Class → Kind
align_kind class.ColumnConstraints = kind.Choice family.HPos
align_kind _ = kind.Choice family.VPos

-- the kind of the values of a field: a length, unless it is one of these
abbrev pub field_kind : Class → Field → Kind
field_kind class field.Grow = kind.Choice family.Priority
field_kind class field.Align = align_kind class
field_kind class _ = kind.Int

-- a value in a field

abbrev pub with_side : Field → ℤ → Lengths → Lengths
with_side field.Top number sides = record sides { top = number }
with_side field.Right number sides = record sides { right = number }
with_side field.Bottom number sides = record sides { bottom = number }
with_side field.Left number sides = record sides { left = number }
with_side _ number sides = sides

abbrev pub with_length : Field → ℤ → Lane → Lane
with_length field.Least number track = record track { min = number }
with_length field.Preferred number track = record track { pref = number }
with_length field.Greatest number track = record track { max = number }
with_length _ number track = track

abbrev pub with_choice : Field → ℕ → Lane → Lane
with_choice field.Grow number track = record track { grow = Some number }
with_choice field.Align number track = record track { align = Some number }
with_choice _ number track = track

abbrev pub with_number : Field → ℤ → Made → Made
with_number field number (Plain (value.Sides sides)) = Plain (value.Sides (with_side field number sides))
with_number field number (Plain other) = Plain (value.Int number)
with_number field number (Track track) = Track (with_length field number track)
with_number field number (Location name) = Location name

abbrev pub with_constant : Field → ℕ → Made → Made
with_constant field number (Plain other) = Plain other
with_constant field number (Track track) = Track (with_choice field number track)
with_constant field number (Location name) = Location name

-- what is made, with this value in the field
abbrev pub with_value : Field → Value → Made → Made
with_value field (value.Int number) made = with_number field number made
with_value field (value.Choice family number) made = with_constant field number made
with_value field _ made = made

-- ways to write the whole value

abbrev pub empty_sides : Value
empty_sides = value.Sides (sides (pos 0) (pos 0) (pos 0) (pos 0))

abbrev pub plain_track : Lane
plain_track = record { min = negsuc 0; pref = negsuc 0; max = negsuc 0; grow = None; align = None }

-- what an instance of the class is without attributes and content
abbrev pub first_made : Class → Made
first_made class.Insets = Plain empty_sides
first_made class.ColumnConstraints = Track plain_track
first_made class.RowConstraints = Track plain_track
first_made _ = Plain (value.Int (pos 12))

abbrev pub number_if : Bool → ℤ → Given → Given
number_if same number other = if same then given.Value (value.Int number) else other

abbrev pub no_constant : Given
no_constant = given.Flaw flaw.Value

abbrev pub integer_constant : List ℕ → Given
integer_constant name =
    number_if (bytes_eq name (codes "MAX_VALUE")) (pos 2147483647)
    (number_if (bytes_eq name (codes "MIN_VALUE")) (negsuc 2147483647) no_constant)

abbrev pub double_constant : List ℕ → Given
double_constant name = number_if (bytes_eq name (codes "MAX_VALUE")) (pos 9223372036854775807) no_constant

-- a region's size by a constant: as its preferred size, or computed
abbrev pub region_constant : List ℕ → Given
region_constant name =
    number_if (bytes_eq name (codes "USE_PREF_SIZE")) (negsuc 9223372036854775807)
    (number_if (bytes_eq name (codes "USE_COMPUTED_SIZE")) (negsuc 0) no_constant)

abbrev pub insets_constant : List ℕ → Given
insets_constant name = if bytes_eq name (codes "EMPTY") then given.Value empty_sides else no_constant

abbrev pub fixed_constant : Class → List ℕ → Given
fixed_constant class.Integer name = integer_constant name
fixed_constant class.Double name = double_constant name
fixed_constant class.Region name = region_constant name
fixed_constant class.Insets name = insets_constant name
fixed_constant _ name = given.Flaw flaw.Property

-- the constant of the class that has this name; some classes have none at all
abbrev pub constant_named : Class → List ℕ → Given
constant_named class.Pos name = literal (kind.Choice family.Pos) name
constant_named class.Priority name = literal (kind.Choice family.Priority) name
constant_named class.HPos name = literal (kind.Choice family.HPos) name
constant_named class.VPos name = literal (kind.Choice family.VPos) name
constant_named class name = fixed_constant class name
