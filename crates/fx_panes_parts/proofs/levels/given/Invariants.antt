use Rattle.std.proofs.Common.{◌≡◌, ◌+◌, ◌*◌, ◌^◌, ◌≤◌, drop, map, sum}
use Rattle.fx_share.specs.Levels.{levelled}
use Rattle.fx_panes_parts.specs.Parts.{rooms}
use Rattle.fx_panes_parts.proofs.levels.given.Given as goal

abbrev pub invariant-loop-part : goal.invariant-loop-part
invariant-loop-part g l =
    record {
      few : l.sum ≤ 2 ^ 32 * l.part-index;
      same : l.sum + sum (levelled l.level.level l.level.more
          (rooms l.room (map (g.T.Parted.part_along l.axis) (drop l.part-index l.parts))))
          ≡ sum (levelled l.fn.level.level l.fn.level.more
          (rooms l.room (map (g.T.Parted.part_along l.axis) l.parts)));
    }
