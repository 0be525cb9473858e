use Rattle.std.proofs.Common.{◌≡◌, drop}
use Rattle.std.specs.Prelude.{fold}
use Rattle.fx_panes_parts.specs.Axes.{along}
use Rattle.fx_panes.specs.Border.{IsRoom, areas_with, no_room}
use Rattle.fx_panes.proofs.border.areas_by.Given as goal

-- the areas so far, widened for the children to come, are those of all
abbrev pub invariant-loop-child : goal.invariant-loop-child
invariant-loop-child l =
    record {
      same : fold (areas_with l.bound l.axis) l.areas (along l.axis (drop l.child-index l.children))
          ≡ fold (areas_with l.bound l.axis) no_room (along l.axis l.children);
      few : IsRoom l.areas;
    }
