-- The constraints that a pane reads of its children: JavaFX 21 API, the static setters of the panes.
use Rattle.std.specs.Prelude.{◌≡◌, ℕ, Bool, true, ◌&&◌, IsTrue, int_le, List, [], ◌∷◌, codes, Option, Some, None, ℤ, pos}
use Rattle.std.specs.List.{find}
use Rattle.std.specs.Str.{bytes_eq}
use Rattle.fx_base.specs.declared.kinds.Family.TheVariants as family
use Rattle.fx_base.specs.declared.kinds.Kind.{Kind}
use Rattle.fx_base.specs.declared.kinds.Kind.TheVariants as kind
use Rattle.fx_base.specs.declared.values.Value.{Value}
use Rattle.fx_base.specs.declared.values.Value.TheVariants as value
use Rattle.fx_base.specs.Printing.{kind_of}
use Rattle.fx_look.specs.Insets.{sides}
use Rattle.fx_look.specs.Readings.{IsValue}

-- the range is of numbers, and none where any will do; the default is none where unset counts as nothing
pub record ConstraintEntry : Type 0 where
  pub name : List ℕ
  pub kind : Kind
  pub range : Option (ℤ × ℤ)
  pub default : Option Value

abbrev pub plain_entry : List ℕ → Kind → Option Value → ConstraintEntry
plain_entry name kind default = record { name = name; kind = kind; range = None; default = default }

abbrev pub margin_entry : List ℕ → ConstraintEntry
margin_entry name = plain_entry name kind.Sides (Some (value.Sides (sides (pos 0) (pos 0) (pos 0) (pos 0))))

abbrev pub place_entry : List ℕ → ℕ → ℕ → ConstraintEntry
place_entry name least greatest = record {
  name = name;
  kind = kind.Int;
  range = Some (pos least, pos greatest);
  default = Some (value.Int (pos least));
}

unfoldable pub constraints : List ConstraintEntry
constraints = plain_entry (codes "HBox.hgrow") (kind.Choice family.Priority) (Some (value.Choice family.Priority 0))
    ∷ plain_entry (codes "VBox.vgrow") (kind.Choice family.Priority) (Some (value.Choice family.Priority 0))
    ∷ plain_entry (codes "GridPane.hgrow") (kind.Choice family.Priority) None
    ∷ plain_entry (codes "GridPane.vgrow") (kind.Choice family.Priority) None
    ∷ margin_entry (codes "HBox.margin")
    ∷ margin_entry (codes "VBox.margin")
    ∷ margin_entry (codes "BorderPane.margin")
    ∷ margin_entry (codes "StackPane.margin")
    ∷ margin_entry (codes "GridPane.margin")
    ∷ plain_entry (codes "BorderPane.alignment") (kind.Choice family.Pos) None
    ∷ plain_entry (codes "StackPane.alignment") (kind.Choice family.Pos) None
    ∷ plain_entry (codes "AnchorPane.topAnchor") kind.Int None
    ∷ plain_entry (codes "AnchorPane.rightAnchor") kind.Int None
    ∷ plain_entry (codes "AnchorPane.bottomAnchor") kind.Int None
    ∷ plain_entry (codes "AnchorPane.leftAnchor") kind.Int None
    ∷ place_entry (codes "GridPane.rowIndex") 0 255
    ∷ place_entry (codes "GridPane.columnIndex") 0 255
    ∷ place_entry (codes "GridPane.rowSpan") 1 64
    ∷ place_entry (codes "GridPane.columnSpan") 1 64
    ∷ plain_entry (codes "GridPane.halignment") (kind.Choice family.HPos) None
    ∷ plain_entry (codes "GridPane.valignment") (kind.Choice family.VPos) None
    ∷ plain_entry (codes "GridPane.fillWidth") kind.Bool (Some (value.Bool true))
    ∷ plain_entry (codes "GridPane.fillHeight") kind.Bool (Some (value.Bool true))
    ∷ []

abbrev pub constraint_named : List ℕ → Option ConstraintEntry
constraint_named name = find (λ (e : ConstraintEntry). bytes_eq e.name name) constraints

-- a number has to be in the range, where there is one
abbrev pub is_in_range : Option (ℤ × ℤ) → Value → Bool
is_in_range (Some r) (value.Int n) = int_le r.0 n && int_le n r.1
is_in_range _ v = true

-- the constraint may have the value
abbrev pub TakesValue : ConstraintEntry → Value → Type 0
TakesValue e v = (kind_of v ≡ e.kind) × IsTrue (is_in_range e.range v)

-- the value that a text gives the constraint of this name
pub record IsConstraintValue (name text : List ℕ) (v : Value) : Type 0 where
  pub entry : ConstraintEntry
  pub named : constraint_named name ≡ Some entry
  pub spelled : IsValue entry.kind text v
  pub in_range : IsTrue (is_in_range entry.range v)
