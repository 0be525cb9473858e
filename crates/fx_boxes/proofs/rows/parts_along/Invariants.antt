use Rattle.std.proofs.Common.{◌≡◌, ◌++◌, drop}
use Rattle.fx_panes_parts.specs.Axes.{along}
use Rattle.fx_boxes.specs.Rows.{parts_of}
use Rattle.fx_boxes.proofs.rows.parts_along.Given as goal

abbrev pub invariant-loop-child : goal.invariant-loop-child
invariant-loop-child l =
    l.parts.items ++ parts_of (along l.axis (drop l.child-index l.children)) ≡ parts_of (along l.axis l.children)
