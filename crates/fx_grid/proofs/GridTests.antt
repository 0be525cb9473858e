-- The numbers of a grid lie in their ranges just where the test says so.
use Rattle.std.proofs.Common.{◌≡◌, Bool, true, List, length, All}
use Rattle.std.specs.Prelude.{◌&&◌, nat_le}
use Rattle.std.specs.List.{list_all}
use Rattle.std.proofs.lemmas.Bool.{and_from, and_parts, le-leb, leb-true}
use Rattle.std.proofs.lemmas.List.Elements.{All-weaker}
use Rattle.std.proofs.lemmas.List.Sums.{AllPass-from_list_all, list_all-from_AllPass}
use Rattle.fx_base.specs.declared.facts.ChildSize.{ChildSize}
use Rattle.fx_base.specs.declared.facts.PaneFacts.{PaneFacts}
use Rattle.fx_panes_parts.specs.declared.axes.Axis.{Axis}
use Rattle.fx_panes_parts.specs.declared.axes.Axis.TheVariants.{Across, Down}
use Rattle.fx_panes_parts.specs.Axes.{child_axis}
use Rattle.fx_grid.specs.Grid.{IsGrid, is_grid}
use Rattle.fx_grid.specs.Tracks.{IsCell, is_cell}

cell_from_test : (axis : Axis) (child : ChildSize) → is_cell axis child ≡ true → IsCell axis child
cell_from_test axis child passes =
    let both = and_parts (nat_le (child_axis axis child).index 255) (nat_le (child_axis axis child).span 64) passes in
    record { index = leb-true (child_axis axis child).index 255 both.0; span = leb-true (child_axis axis child).span 64 both.1 }

test_from_cell : (axis : Axis) (child : ChildSize) → IsCell axis child → is_cell axis child ≡ true
test_from_cell axis child cell =
    and_from (nat_le (child_axis axis child).index 255) (nat_le (child_axis axis child).span 64)
    (le-leb (child_axis axis child).index 255 cell.index) (le-leb (child_axis axis child).span 64 cell.span)

cells_from_test : (axis : Axis) (children : List ChildSize) → list_all (is_cell axis) children ≡ true → All (IsCell axis) children
cells_from_test axis children passes =
    All-weaker (λ (child : ChildSize). is_cell axis child ≡ true) (IsCell axis) (cell_from_test axis) children
    (AllPass-from_list_all (is_cell axis) children passes)

test_from_cells : (axis : Axis) (children : List ChildSize) → All (IsCell axis) children → list_all (is_cell axis) children ≡ true
test_from_cells axis children cells =
    list_all-from_AllPass (is_cell axis) children
    (All-weaker (IsCell axis) (λ (child : ChildSize). is_cell axis child ≡ true) (test_from_cell axis) children cells)

pub grid_from_test : (pane : PaneFacts) (children : List ChildSize) → is_grid pane children ≡ true → IsGrid pane children
unfolding is_grid
grid_from_test pane children passes =
    let columns : Bool = nat_le (length pane.columns) 256 in
    let rows : Bool = nat_le (length pane.rows) 256 in
    let across : Bool = list_all (is_cell Across) children in
    let down : Bool = list_all (is_cell Down) children in
    let last = and_parts (columns && rows && across) down passes in
    let third = and_parts (columns && rows) across last.0 in
    let two = and_parts columns rows third.0 in
    record {
      columns = leb-true (length pane.columns) 256 two.0;
      rows = leb-true (length pane.rows) 256 two.1;
      across = cells_from_test Across children third.1;
      down = cells_from_test Down children last.1;
    }

pub test_from_grid : (pane : PaneFacts) (children : List ChildSize) → IsGrid pane children → is_grid pane children ≡ true
unfolding is_grid
test_from_grid pane children grid =
    let columns : Bool = nat_le (length pane.columns) 256 in
    let rows : Bool = nat_le (length pane.rows) 256 in
    let across : Bool = list_all (is_cell Across) children in
    let down : Bool = list_all (is_cell Down) children in
    and_from (columns && rows && across) down
    (and_from (columns && rows) across
    (and_from columns rows (le-leb (length pane.columns) 256 grid.columns) (le-leb (length pane.rows) 256 grid.rows))
    (test_from_cells Across children grid.across))
    (test_from_cells Down children grid.down)
