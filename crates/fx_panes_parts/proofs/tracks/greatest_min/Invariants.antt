use Rattle.std.proofs.Common.{◌≡◌, ◌^◌, ◌<◌, drop, map, max}
use Rattle.fx_panes_parts.specs.Parts.{greatest_of}
use Rattle.fx_panes_parts.proofs.tracks.greatest_min.Given as goal

abbrev pub invariant-loop-part : goal.invariant-loop-part
invariant-loop-part g l =
    record {
      bound : l.most < 2 ^ 32;
      same : max l.most (greatest_of (map (λ part. part.min) (map (g.T.Parted.part_along l.axis) (drop l.part-index l.parts))))
          ≡ greatest_of (map (λ part. part.min) (map (g.T.Parted.part_along l.axis) l.parts));
    }
