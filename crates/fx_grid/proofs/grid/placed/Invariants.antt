use Rattle.std.proofs.Common.{◌≡◌, ◌++◌, drop, map}
use Rattle.std.specs.Simd.Lanes.{zip2}
use Rattle.fx_panes_parts.specs.declared.axes.Axis.TheVariants.{Across, Down}
use Rattle.fx_panes_parts.specs.Axes.{along, rect_of}
use Rattle.fx_grid.specs.Starts.{span_at}
use Rattle.fx_grid.proofs.grid.placed.Given as goal

-- the rectangles so far and those to come are all
abbrev pub invariant-loop-child : goal.invariant-loop-child
invariant-loop-child l =
    l.rects.items ++ zip2 rect_of
    (map (span_at Across l.pane.columns l.hgap l.lefts) (along Across (drop l.child-index l.children)))
    (map (span_at Down l.pane.rows l.vgap l.tops) (along Down (drop l.child-index l.children)))
    ≡ zip2 rect_of
    (map (span_at Across l.pane.columns l.hgap l.lefts) (along Across l.children))
    (map (span_at Down l.pane.rows l.vgap l.tops) (along Down l.children))
