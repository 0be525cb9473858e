use Rattle.std.proofs.Common.{◌≡◌, ◌+◌, ◌^◌, ◌<◌, drop, max}
use Rattle.fx_panes_parts.specs.Axes.{along}
use Rattle.fx_boxes.specs.Panes.{farthest_end}
use Rattle.fx_boxes.proofs.pane.farthest_end.Given as goal

abbrev pub invariant-loop-child : goal.invariant-loop-child
invariant-loop-child l =
    record {
      bound : l.most < 2 ^ 63 + 2 ^ 17;
      same : max l.most (farthest_end (along l.axis (drop l.child-index l.children))) ≡ farthest_end (along l.axis l.children);
    }
