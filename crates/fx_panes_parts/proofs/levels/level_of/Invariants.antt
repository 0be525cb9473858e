use Rattle.std.proofs.Common.{◌+◌, ◌-◌, ◌<◌, ◌≤◌, map}
use Rattle.fx_share.specs.Levels.{filled}
use Rattle.fx_panes_parts.specs.Parts.{rooms}
use Rattle.fx_panes_parts.proofs.levels.level_of.Given as goal

abbrev pub invariant-loop-low : goal.invariant-loop-low
invariant-loop-low g l =
    record {
      order : l.low ≤ l.high;
      most : l.high < 100000;
      enough : filled l.low (rooms l.room (map (g.T.Parted.part_along l.axis) l.parts)) ≤ l.total;
      greatest : l.total < filled (l.high + 1) (rooms l.room (map (g.T.Parted.part_along l.axis) l.parts));
    }

abbrev pub decreases-loop-low : goal.decreases-loop-low
decreases-loop-low g l = l.high - l.low
