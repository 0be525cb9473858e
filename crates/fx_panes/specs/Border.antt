-- A pane with children at its edges and in its centre: JavaFX 21 API, javafx.scene.layout.BorderPane.
-- Along an axis two of the edges stand at its head and its tail, and what is left lies in the middle. Across, the top
-- and the bottom have the whole content; down, all but these two have the middle. Cited by src/border.rt.
use Rattle.std.specs.Prelude.{ℕ, ◌+◌, ◌-◌, ◌≤◌, ◌==◌, if◌then◌else◌, List, fold, map, max, unwrap_or, Option, Some, None}
use Rattle.fx_base.specs.declared.facts.ChildSize.{ChildSize}
use Rattle.fx_base.specs.declared.facts.PaneFacts.{PaneFacts}
use Rattle.fx_base.specs.declared.facts.Sizes.{Sizes}
use Rattle.fx_base.specs.declared.geometry.Rect.{Rect}
use Rattle.fx_panes_parts.specs.declared.axes.Axis.{Axis}
use Rattle.fx_panes_parts.specs.declared.axes.Axis.TheVariants.{Across, Down}
use Rattle.fx_panes_parts.specs.declared.axes.ChildAxis.{ChildAxis}
use Rattle.fx_panes_parts.specs.declared.axes.Extent.{Extent}
use Rattle.fx_panes_parts.specs.declared.axes.PaneAxis.{PaneAxis}
use Rattle.fx_panes_parts.specs.declared.axes.Span.{Span}
use Rattle.fx_panes_parts.specs.Axes.{content, insets}
use Rattle.fx_panes_parts.specs.Panes.{measured, placed}
use Rattle.fx_panes_parts.specs.Sizes.{held, in_area}
use Rattle.fx_panes.specs.declared.border.Area.{Area}
use Rattle.fx_panes.specs.declared.border.Area.TheVariants.{Head, Middle, Tail, Whole}
use Rattle.fx_panes.specs.declared.border.Areas.{Areas}
use Rattle.fx_panes.specs.declared.border.Edge.{Edge}
use Rattle.fx_panes.specs.declared.border.Edge.TheVariants.{Bottom, Center, Left, Right, Top}
use Rattle.fx_panes.specs.declared.rules.Bound.{Bound}
use Rattle.fx_panes.specs.declared.rules.Bound.TheVariants.{Preferred}
use Rattle.fx_panes.specs.Rules.{extent_by, inner, outer_by}

-- the edge of this number; a child of a BorderPane has one, and the centre stands in for none
unfoldable pub edge_of : Option ℕ → Edge
edge_of (Some number) =
    if number == 0 then Top else (if number == 1 then Right
    else (if number == 2 then Bottom else (if number == 3 then Left else Center)))
edge_of None = Center

unfoldable pub area_of : Axis → Edge → Area
area_of Across Top = Whole
area_of Across Right = Tail
area_of Across Bottom = Whole
area_of Across Left = Head
area_of Across Center = Middle
area_of Down Top = Head
area_of Down Right = Middle
area_of Down Bottom = Tail
area_of Down Left = Middle
area_of Down Center = Middle

-- the side of its area at which a child stands that says nothing: 0 start, 1 centre, 2 end
unfoldable pub side_of : Axis → Edge → ℕ
side_of Across Right = 2
side_of Down Bottom = 2
side_of axis Center = 1
side_of axis edge = 0

-- areas of which this one has room for so much
unfoldable pub widened : Area → ℕ → Areas → Areas
widened Head length areas = record areas { head = max areas.head length }
widened Middle length areas = record areas { middle = max areas.middle length }
widened Tail length areas = record areas { tail = max areas.tail length }
widened Whole length areas = record areas { whole = max areas.whole length }

-- no area has room for a child
abbrev pub no_room : Areas
no_room = record { head = 0; middle = 0; tail = 0; whole = 0 }

-- areas with room for one more child with its margins
unfoldable pub areas_with : Bound → Axis → Areas → ChildAxis → Areas
areas_with bound axis areas child = widened (area_of axis (edge_of child.edge)) (outer_by bound child) areas

-- what each area has to hold: nothing where it has no child
unfoldable pub areas_by : Bound → Axis → List ChildAxis → Areas
areas_by bound axis children = fold (areas_with bound axis) no_room children

-- no area has to hold more than the longest child with the longest margins
pub record IsRoom (areas : Areas) : Type 0 where
  pub head : areas.head ≤ 300000
  pub middle : areas.middle ≤ 300000
  pub tail : areas.tail ≤ 300000
  pub whole : areas.whole ≤ 300000

-- head and tail keep the preferred lengths of their children
unfoldable pub border_computed : Axis → Bound → PaneAxis → List ChildAxis → ℕ
border_computed axis bound pane children =
    let kept = areas_by Preferred axis children in
    let areas = areas_by bound axis children in
    insets pane + max areas.whole (kept.head + areas.middle + kept.tail)

unfoldable pub border_extent : Axis → PaneAxis → List ChildAxis → Extent
border_extent axis pane children = extent_by (border_computed axis) pane children

-- the tail begins at the content's end less its length, but not before the head's end
abbrev pub tail_start : Areas → ℕ → ℕ
tail_start kept space = max kept.head (space - kept.tail)

-- In the middle and in the whole content a child fills its area, else it has its preferred length.
unfoldable pub bordered : Area → ℕ → PaneAxis → Areas → ℕ → ChildAxis → Span
bordered Head how pane kept space child = in_area how pane.before kept.head child child.extent.pref
bordered Tail how pane kept space child =
    in_area how (pane.before + tail_start kept space) kept.tail child child.extent.pref
bordered Middle how pane kept space child =
    let area = tail_start kept space - kept.head in
    in_area how (pane.before + kept.head) area child (held child.extent (inner child area))
bordered Whole how pane kept space child = in_area how pane.before space child (held child.extent (inner child space))

unfoldable pub border_span : Axis → PaneAxis → Areas → ℕ → ChildAxis → Span
border_span axis pane kept length child =
    let edge = edge_of child.edge in
    bordered (area_of axis edge) (unwrap_or child.alignment (side_of axis edge)) pane kept (content pane length) child

abbrev pub border_spans : Axis → PaneAxis → List ChildAxis → ℕ → List Span
border_spans axis pane children length = map (border_span axis pane (areas_by Preferred axis children) length) children

abbrev pub border_sizes : PaneFacts → List ChildSize → Sizes
border_sizes = measured (border_extent Across) (border_extent Down)

abbrev pub border_rects : PaneFacts → List ChildSize → ℕ → ℕ → List Rect
border_rects = placed (border_spans Across) (border_spans Down)
