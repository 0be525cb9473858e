use Rattle.std.proofs.Common.{◌≡◌, ◌+◌, ◌*◌, ◌^◌, ◌≤◌, drop, map, sum_by}
use Rattle.fx_panes_parts.proofs.tracks.needed.Given as goal

abbrev pub invariant-loop-part : goal.invariant-loop-part
invariant-loop-part g l =
    record {
      few : l.sum ≤ 2 ^ 32 * l.part-index;
      same : l.sum + sum_by (λ part. part.min) (map (g.T.Parted.part_along l.axis) (drop l.part-index l.parts))
          ≡ sum_by (λ part. part.min) (map (g.T.Parted.part_along l.axis) l.parts);
    }
