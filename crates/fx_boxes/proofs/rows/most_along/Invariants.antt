use Rattle.std.proofs.Common.{◌≡◌, ◌^◌, ◌<◌, drop, map, max}
use Rattle.fx_panes_parts.specs.Axes.{along}
use Rattle.fx_panes_parts.specs.Parts.{greatest_of}
use Rattle.fx_boxes.specs.Rows.{parts_of}
use Rattle.fx_boxes.proofs.rows.most_along.Given as goal

abbrev pub invariant-loop-child : goal.invariant-loop-child
invariant-loop-child l =
    record {
      bound_min : l.min < 2 ^ 32;
      bound_pref : l.pref < 2 ^ 32;
      min : max l.min (greatest_of (map (λ part. part.min) (parts_of (along l.axis (drop l.child-index l.children)))))
          ≡ greatest_of (map (λ part. part.min) (parts_of (along l.axis l.children)));
      pref : max l.pref (greatest_of (map (λ part. part.pref) (parts_of (along l.axis (drop l.child-index l.children)))))
          ≡ greatest_of (map (λ part. part.pref) (parts_of (along l.axis l.children)));
    }
