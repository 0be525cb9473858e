use Rattle.std.proofs.Common.{◌≡◌, ◌++◌, drop, map}
use Rattle.std.specs.Simd.Lanes.{zip2}
use Rattle.fx_panes_parts.specs.declared.axes.Axis.TheVariants.{Across, Down}
use Rattle.fx_panes_parts.specs.Axes.{along, rect_of}
use Rattle.fx_panes.specs.Border.{border_span}
use Rattle.fx_panes.proofs.border.rects.Given as goal

-- the rectangles so far and those to come are all
abbrev pub invariant-loop-child : goal.invariant-loop-child
invariant-loop-child l =
    l.rects.items ++ zip2 rect_of
    (map (border_span Across l.across l.columns l.width) (along Across (drop l.child-index l.children)))
    (map (border_span Down l.down l.rows l.height) (along Down (drop l.child-index l.children)))
    ≡ zip2 rect_of
    (map (border_span Across l.across l.columns l.width) (along Across l.children))
    (map (border_span Down l.down l.rows l.height) (along Down l.children))
