-- The rule of a node by its class, and by the rule its sizes and the places of its children (JavaFX 21 API,
-- javafx.scene.layout).
-- Cited by src/rules.rt and by the layout of a tree.
use Rattle.std.specs.Prelude.{◌≡◌, ℕ, ◌≤◌, Bool, true, false, List, [], length, map, Option, Some, None}
use Rattle.fx_base.specs.declared.facts.ChildSize.{ChildSize}
use Rattle.fx_base.specs.declared.facts.PaneFacts.{PaneFacts}
use Rattle.fx_base.specs.declared.facts.Sizes.{Sizes}
use Rattle.fx_base.specs.declared.geometry.Rect.{Rect}
use Rattle.fx_kinds.specs.declared.classes.Class.{Class}
use Rattle.fx_kinds.specs.declared.classes.Class.TheVariants as class
use Rattle.fx_boxes.specs.Controls.{IsControl}
use Rattle.fx_boxes.specs.Panes.{pane_rects, pane_sizes}
use Rattle.fx_boxes.specs.Regions.{region_sizes}
use Rattle.fx_boxes.specs.Rows.{hbox_rects, hbox_sizes, vbox_rects, vbox_sizes}
use Rattle.fx_boxes.specs.declared.sides.RowSide.{RowSide}
use Rattle.fx_boxes.specs.declared.sides.RowSide.TheVariants.{Along, Beside}
use Rattle.fx_panes.specs.Anchor.{anchor_rects, anchor_sizes}
use Rattle.fx_panes.specs.Border.{border_rects, border_sizes}
use Rattle.fx_panes.specs.Stack.{stack_rects, stack_sizes}
use Rattle.fx_grid.specs.Grid.{IsGrid, grid_rects, grid_sizes}
use Rattle.fx_panes_parts.specs.declared.axes.Axis.{Axis}
use Rattle.fx_panes_parts.specs.declared.axes.Axis.TheVariants.{Across, Down}
use Rattle.fx_panes_parts.specs.declared.axes.Extent.{Extent}
use Rattle.fx_panes_parts.specs.declared.axes.Span.{Span}
use Rattle.fx_panes_parts.specs.Lengths.{length_of, pixels, place_of}
use Rattle.fx_layout_parts.specs.declared.rules.NodeBox.{NodeBox}
use Rattle.fx_layout_parts.specs.declared.rules.Rule.{Rule}
use Rattle.fx_layout_parts.specs.declared.rules.Rule.TheVariants as rule

-- the rule of a class; what is no pane and no control is laid out as a region
unfoldable pub rule_of : Class → Rule
rule_of class.Pane = rule.Free
rule_of class.HBox = rule.HBox
rule_of class.VBox = rule.VBox
rule_of class.BorderPane = rule.Border
rule_of class.StackPane = rule.Stack
rule_of class.AnchorPane = rule.Anchor
rule_of class.GridPane = rule.Grid
rule_of class.Label = rule.Control
rule_of class.Button = rule.Control
rule_of _ = rule.Region

-- A node's sizes over those of its children, with the heights that it has in a width. Those of a control hang on the
-- lines of its text there; those of a pane have the width in those of its children.
abbrev pub AreSizesBy : Rule → PaneFacts → List ChildSize → ℕ → Sizes → Type 0
AreSizesBy rule.Region node children w sizes = sizes ≡ region_sizes node
AreSizesBy rule.Control node children w sizes = IsControl node w sizes
AreSizesBy rule.Free node children w sizes = sizes ≡ pane_sizes node children
AreSizesBy rule.HBox node children w sizes = sizes ≡ hbox_sizes node children
AreSizesBy rule.VBox node children w sizes = sizes ≡ vbox_sizes node children
AreSizesBy rule.Border node children w sizes = sizes ≡ border_sizes node children
AreSizesBy rule.Stack node children w sizes = sizes ≡ stack_sizes node children
AreSizesBy rule.Anchor node children w sizes = sizes ≡ anchor_sizes node children
AreSizesBy rule.Grid node children w sizes = sizes ≡ grid_sizes node children

-- where the children stand in a width and a height; what is no pane has no children to place
unfoldable pub rects_by : Rule → PaneFacts → List ChildSize → ℕ → ℕ → List Rect
rects_by rule.Region node children w h = []
rects_by rule.Control node children w h = []
rects_by rule.Free node children w h = pane_rects node children w h
rects_by rule.HBox node children w h = hbox_rects node children w h
rects_by rule.VBox node children w h = vbox_rects node children w h
rects_by rule.Border node children w h = border_rects node children w h
rects_by rule.Stack node children w h = stack_rects node children w h
rects_by rule.Anchor node children w h = anchor_rects node children w h
rects_by rule.Grid node children w h = grid_rects node children w h

-- a node's children have places: it is a pane
abbrev pub is_pane : Rule → Bool
is_pane rule.Region = false
is_pane rule.Control = false
is_pane _ = true

-- what an axis is to the row of a pane that puts its children in one
abbrev pub hbox_side : Axis → RowSide
hbox_side Across = Along
hbox_side Down = Beside

abbrev pub vbox_side : Axis → RowSide
vbox_side Across = Beside
vbox_side Down = Along

abbrev pub row_side : Rule → Axis → Option RowSide
row_side rule.HBox axis = Some (hbox_side axis)
row_side rule.VBox axis = Some (vbox_side axis)
row_side _ axis = None

abbrev pub AreSizes : NodeBox → List ChildSize → ℕ → Sizes → Type 0
AreSizes node children w sizes = AreSizesBy node.rule node.facts children w sizes

abbrev pub rects_in : NodeBox → List ChildSize → ℕ → ℕ → List Rect
rects_in node children w h = rects_by node.rule node.facts children w h

-- the horizontal and the vertical half of sizes
abbrev pub across_half : Sizes → Extent
across_half sizes =
    record { min = length_of sizes.min_w; pref = length_of sizes.pref_w; max = length_of sizes.max_w }

abbrev pub down_half : Sizes → Extent
down_half sizes =
    record { min = length_of sizes.min_h; pref = length_of sizes.pref_h; max = length_of sizes.max_h }

-- lengths as they are where they are told in pixels
abbrev pub in_pixels : Extent → Extent
in_pixels e =
    record { min = length_of (pixels e.min); pref = length_of (pixels e.pref); max = length_of (pixels e.max) }

-- A node's widths: the horizontal half of its sizes, which is the same in every width.
abbrev pub IsWide : NodeBox → List ChildSize → Extent → Type 0
IsWide node children widths =
    (sizes : Sizes) × (w : ℕ) × AreSizes node children w sizes × (widths ≡ across_half sizes)

-- A node's heights in a width.
abbrev pub IsHigh : NodeBox → List ChildSize → ℕ → Extent → Type 0
IsHigh node children w heights = (sizes : Sizes) × AreSizes node children w sizes × (heights ≡ down_half sizes)

-- the horizontal and the vertical half of a rectangle
abbrev pub across_span : Rect → Span
across_span rect = record { start = place_of rect.x; length = length_of rect.w }

abbrev pub down_span : Rect → Span
down_span rect = record { start = place_of rect.y; length = length_of rect.h }

-- where the children stand across in a width; no height matters for it
abbrev pub across_in : NodeBox → List ChildSize → ℕ → List Span
across_in node children w = map across_span (rects_in node children w 0)

-- where they stand down in a height
abbrev pub down_in : NodeBox → List ChildSize → ℕ → List Span
down_in node children h = map down_span (rects_in node children 0 h)

-- the node can be asked: there are few enough children, columns and rows
pub record CanBeAsked (node : NodeBox) (children : List ChildSize) : Type 0 where
  pub few : length children ≤ 4096
  pub grid : IsGrid node.facts children
