use Rattle.std.proofs.Common.{◌≡◌, ◌+◌, ◌*◌, ◌^◌, ◌≤◌, drop, map, sum}
use Rattle.fx_panes_parts.specs.Tracks.{lengths_by}
use Rattle.fx_panes_parts.proofs.tracks.Plan.whole.Given as goal

abbrev pub invariant-loop-part : goal.invariant-loop-part
invariant-loop-part g l =
    record {
      few : l.sum ≤ 2 ^ 34 * l.part-index;
      same : l.sum + sum (lengths_by l.self (map (g.T.Parted.part_along l.axis) (drop l.part-index l.parts)))
          ≡ sum (lengths_by l.fn.self (map (g.T.Parted.part_along l.axis) l.parts));
    }
