-- A child as a pane of a class sees it: its lengths along both axes, and of its constraints those that are the pane's
-- (JavaFX 21 API, the static setters of the panes). Cited by src/children.rt and by the layout of a tree.
use Rattle.std.specs.Prelude.{ℕ, ℤ, pos, negsuc, Bool, true, List, codes, max, min, Option, Some, None}
use Rattle.std.specs.List.{find}
use Rattle.std.specs.Option.{option_map}
use Rattle.std.specs.Str.{bytes_eq}
use Rattle.fx_base.specs.declared.facts.ChildSize.{ChildSize}
use Rattle.fx_base.specs.declared.geometry.Sides.{Sides}
use Rattle.fx_base.specs.declared.values.Value.{Value}
use Rattle.fx_base.specs.declared.values.Value.TheVariants.{Int, Bool as Truth, Choice, Sides as Insets}
use Rattle.fx_kinds.specs.declared.facts.BoxFacts.{BoxFacts}
use Rattle.fx_kinds.specs.declared.facts.Constraint.{Constraint}
use Rattle.fx_insets.specs.Insets.{no_sides}
use Rattle.fx_panes_parts.specs.declared.axes.Extent.{Extent}
use Rattle.fx_panes_parts.specs.Axes.{joined}
use Rattle.fx_layout_parts.specs.declared.rules.Rule.{Rule}
use Rattle.fx_layout_parts.specs.declared.rules.Rule.TheVariants as rule

-- the value of the constraint of this name, where it is set
abbrev pub value_named : List ℕ → List Constraint → Option Value
value_named name constraints =
    option_map (λ (c : Constraint). c.value) (find (λ (c : Constraint). bytes_eq c.name name) constraints)

abbrev pub number_in : Option Value → Option ℤ
number_in (Some (Int n)) = Some n
number_in _ = None

abbrev pub choice_in : Option Value → Option ℕ
choice_in (Some (Choice family place)) = Some place
choice_in _ = None

-- sides, or none on any side
abbrev pub sides_in : Option Value → Sides
sides_in (Some (Insets sides)) = sides
sides_in _ = no_sides

-- true where nothing else is said
abbrev pub truth_in : Option Value → Bool
truth_in (Some (Truth b)) = b
truth_in _ = true

-- a number that is kept in a range
abbrev pub kept_in : ℕ → ℕ → ℤ → ℕ
kept_in least most (pos n) = max (min n most) least
kept_in least most (negsuc n) = least

-- the number that is said, kept in a range, or the least
abbrev pub place_in : ℕ → ℕ → Option Value → ℕ
place_in least most (Some (Int n)) = kept_in least most n
place_in least most _ = least

-- a child of which nothing is said but where it would like to be
abbrev pub plain_child : BoxFacts → Extent → Extent → ChildSize
plain_child node across down = record {
  sizes = joined across down;
  margin = no_sides;
  hgrow = None;
  vgrow = None;
  alignment = None;
  halign = None;
  valign = None;
  top = None;
  right = None;
  bottom = None;
  left = None;
  column = 0;
  row = 0;
  column_span = 1;
  row_span = 1;
  fill_width = true;
  fill_height = true;
  edge = node.edge;
  layout_x = node.layout_x;
  layout_y = node.layout_y;
}

abbrev pub hbox_child : List Constraint → ChildSize → ChildSize
hbox_child said child = record child {
  margin = sides_in (value_named (codes "HBox.margin") said);
  hgrow = choice_in (value_named (codes "HBox.hgrow") said);
}

abbrev pub vbox_child : List Constraint → ChildSize → ChildSize
vbox_child said child = record child {
  margin = sides_in (value_named (codes "VBox.margin") said);
  vgrow = choice_in (value_named (codes "VBox.vgrow") said);
}

abbrev pub border_child : List Constraint → ChildSize → ChildSize
border_child said child = record child {
  margin = sides_in (value_named (codes "BorderPane.margin") said);
  alignment = choice_in (value_named (codes "BorderPane.alignment") said);
}

abbrev pub stack_child : List Constraint → ChildSize → ChildSize
stack_child said child = record child {
  margin = sides_in (value_named (codes "StackPane.margin") said);
  alignment = choice_in (value_named (codes "StackPane.alignment") said);
}

abbrev pub anchor_child : List Constraint → ChildSize → ChildSize
anchor_child said child = record child {
  top = number_in (value_named (codes "AnchorPane.topAnchor") said);
  right = number_in (value_named (codes "AnchorPane.rightAnchor") said);
  bottom = number_in (value_named (codes "AnchorPane.bottomAnchor") said);
  left = number_in (value_named (codes "AnchorPane.leftAnchor") said);
}

abbrev pub grid_child : List Constraint → ChildSize → ChildSize
grid_child said child = record child {
  margin = sides_in (value_named (codes "GridPane.margin") said);
  hgrow = choice_in (value_named (codes "GridPane.hgrow") said);
  vgrow = choice_in (value_named (codes "GridPane.vgrow") said);
  halign = choice_in (value_named (codes "GridPane.halignment") said);
  valign = choice_in (value_named (codes "GridPane.valignment") said);
  column = place_in 0 255 (value_named (codes "GridPane.columnIndex") said);
  row = place_in 0 255 (value_named (codes "GridPane.rowIndex") said);
  column_span = place_in 1 64 (value_named (codes "GridPane.columnSpan") said);
  row_span = place_in 1 64 (value_named (codes "GridPane.rowSpan") said);
  fill_width = truth_in (value_named (codes "GridPane.fillWidth") said);
  fill_height = truth_in (value_named (codes "GridPane.fillHeight") said);
}

-- what a pane of this rule reads of the constraints
abbrev pub with_constraints : Rule → List Constraint → ChildSize → ChildSize
with_constraints rule.Region said child = child
with_constraints rule.Control said child = child
with_constraints rule.Free said child = child
with_constraints rule.HBox said child = hbox_child said child
with_constraints rule.VBox said child = vbox_child said child
with_constraints rule.Border said child = border_child said child
with_constraints rule.Stack said child = stack_child said child
with_constraints rule.Anchor said child = anchor_child said child
with_constraints rule.Grid said child = grid_child said child

-- a child of these lengths in a pane of this rule
unfoldable pub child_of : Rule → BoxFacts → Extent → Extent → ChildSize
child_of pane node across down = with_constraints pane node.constraints (plain_child node across down)
