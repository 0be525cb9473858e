use Rattle.std.proofs.Common.{◌≡◌, ◌+◌, ◌*◌, ◌^◌, ◌≤◌, drop, sum_by}
use Rattle.fx_panes_parts.specs.Axes.{along}
use Rattle.fx_boxes.specs.Rows.{parts_of}
use Rattle.fx_boxes.proofs.rows.sums_along.Given as goal

abbrev pub invariant-loop-child : goal.invariant-loop-child
invariant-loop-child l =
    record {
      few_min : l.min ≤ 2 ^ 32 * l.child-index;
      few_pref : l.pref ≤ 2 ^ 32 * l.child-index;
      min : l.min + sum_by (λ part. part.min) (parts_of (along l.axis (drop l.child-index l.children)))
          ≡ sum_by (λ part. part.min) (parts_of (along l.axis l.children));
      pref : l.pref + sum_by (λ part. part.pref) (parts_of (along l.axis (drop l.child-index l.children)))
          ≡ sum_by (λ part. part.pref) (parts_of (along l.axis l.children));
    }
