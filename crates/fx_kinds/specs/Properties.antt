-- The properties of nodes, in their order: JavaFX 21 API, Node, Region, Labeled and the panes.
use Rattle.std.specs.Prelude.{ℕ, Bool, true, false, ◌||◌, List, [], ◌∷◌, codes, Option, ℤ, pos, negsuc, map, filter, slice_get}
use Rattle.std.specs.List.{position}
use Rattle.std.specs.Option.{option_map, option_map_or}
use Rattle.std.specs.Str.{bytes_eq}
use Rattle.fx_base.specs.declared.kinds.Family.TheVariants.{Pos as PosFamily}
use Rattle.fx_base.specs.declared.kinds.Kind.{Kind}
use Rattle.fx_base.specs.declared.kinds.Kind.TheVariants as kind
use Rattle.fx_base.specs.declared.values.Value.{Value}
use Rattle.fx_base.specs.declared.values.Value.TheVariants as value
use Rattle.fx_look.specs.Colors.{color}
use Rattle.fx_look.specs.Insets.{sides}
use Rattle.fx_look.specs.Styles.{StyleRow, styles}
use Rattle.fx_kinds.specs.declared.classes.Class.{Class}
use Rattle.fx_kinds.specs.declared.classes.Class.TheVariants as class
use Rattle.fx_kinds.specs.Classes.{is_node, is_control}

pub record PropertyRow : Type 0 where
  pub name : List ℕ
  pub kind : Kind
  pub read_only : Bool
  pub of : Class → Bool
  pub initial : Class → Value

-- which classes have a property

abbrev pub is_hbox : Class → Bool
is_hbox class.HBox = true
is_hbox _ = false

abbrev pub is_vbox : Class → Bool
is_vbox class.VBox = true
is_vbox _ = false

abbrev pub is_grid : Class → Bool
is_grid class.GridPane = true
is_grid _ = false

abbrev pub is_stack : Class → Bool
is_stack class.StackPane = true
is_stack _ = false

abbrev pub is_box : Class → Bool
is_box c = is_hbox c || is_vbox c

abbrev pub is_aligned : Class → Bool
is_aligned c = (is_box c || is_stack c) || (is_grid c || is_control c)

-- initial values that hang on the class

abbrev pub is_button : Class → Bool
is_button class.Button = true
is_button _ = false

-- a place among the constants of `Pos`: TOP_LEFT, CENTER_LEFT or CENTER
abbrev pub initial_alignment : Class → ℕ
initial_alignment class.StackPane = 4
initial_alignment class.Button = 4
initial_alignment class.Label = 3
initial_alignment _ = 0

abbrev pub always : Value → Class → Value
always v c = v

-- a property that may be set
abbrev pub set_row : List ℕ → Kind → (Class → Value) → (Class → Bool) → PropertyRow
set_row name kind initial of = record { name = name; kind = kind; read_only = false; of = of; initial = initial }

abbrev pub int_row : List ℕ → ℤ → (Class → Bool) → PropertyRow
int_row name number of = set_row name kind.Int (always (value.Int number)) of

abbrev pub computed_row : List ℕ → PropertyRow
computed_row name =
    record { name = name; kind = kind.Int; read_only = true; of = is_node; initial = always (value.Int (pos 0)) }

abbrev pub truth_row : List ℕ → (Class → Bool) → (Class → Bool) → PropertyRow
truth_row name truth of = set_row name kind.Bool (λ c. value.Bool (truth c)) of

abbrev pub text_row : List ℕ → (Class → Bool) → PropertyRow
text_row name of = set_row name kind.Text (always (value.Text [])) of

unfoldable pub rows : List PropertyRow
rows = text_row (codes "id") is_node
    ∷ truth_row (codes "visible") (λ c. true) is_node
    ∷ truth_row (codes "disable") (λ c. false) is_node
    ∷ truth_row (codes "focusTraversable") is_button is_node
    ∷ int_row (codes "layoutX") (pos 0) is_node
    ∷ int_row (codes "layoutY") (pos 0) is_node
    ∷ int_row (codes "minWidth") (negsuc 0) is_node
    ∷ int_row (codes "minHeight") (negsuc 0) is_node
    ∷ int_row (codes "prefWidth") (negsuc 0) is_node
    ∷ int_row (codes "prefHeight") (negsuc 0) is_node
    ∷ int_row (codes "maxWidth") (negsuc 0) is_node
    ∷ int_row (codes "maxHeight") (negsuc 0) is_node
    ∷ set_row (codes "padding") kind.Sides (always (value.Sides (sides (pos 0) (pos 0) (pos 0) (pos 0)))) is_node
    ∷ computed_row (codes "width")
    ∷ computed_row (codes "height")
    ∷ set_row (codes "alignment") (kind.Choice PosFamily) (λ c. value.Choice PosFamily (initial_alignment c)) is_aligned
    ∷ int_row (codes "spacing") (pos 0) is_box
    ∷ truth_row (codes "fillHeight") (λ c. true) is_hbox
    ∷ truth_row (codes "fillWidth") (λ c. true) is_vbox
    ∷ int_row (codes "hgap") (pos 0) is_grid
    ∷ int_row (codes "vgap") (pos 0) is_grid
    ∷ text_row (codes "text") is_control
    ∷ set_row (codes "textFill") kind.Color (always (value.Color (color 0 0 0 255))) is_control
    ∷ int_row (codes "fontSize") (pos 12) is_control
    ∷ truth_row (codes "wrapText") (λ c. false) is_control
    ∷ []

-- the rows of a class
unfoldable pub rows_of : Class → List PropertyRow
rows_of c = filter (λ row. row.of c) rows

-- whether a declaration styles the property of this name
abbrev pub is_styling : List ℕ → StyleRow → Bool
is_styling name style = option_map_or (λ property. bytes_eq property name) style.property false

-- the place of the declaration that styles the property of this name
unfoldable pub styled_by : List ℕ → Option ℕ
styled_by name = position (is_styling name) styles

-- a property as a class lists it
pub record ListedProperty : Type 0 where
  pub name : List ℕ
  pub kind : Kind
  pub read_only : Bool
  pub styled : Option ℕ

abbrev pub listed : PropertyRow → ListedProperty
listed row = record { name = row.name; kind = row.kind; read_only = row.read_only; styled = styled_by row.name }

abbrev pub properties_of : Class → List ListedProperty
properties_of c = map listed (rows_of c)

-- the initial value of the property at this place of the class's list
abbrev pub initial_of : Class → ℕ → Option Value
initial_of c place = option_map (λ (row : PropertyRow). row.initial c) (slice_get (rows_of c) place)
