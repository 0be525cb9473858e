use Rattle.std.proofs.Common.{◌≡◌, ◌+◌, ◌-◌, ◌^◌, ◌≤◌, drop, map, min}
use Rattle.fx_share.specs.Levels.{filled}
use Rattle.fx_panes_parts.specs.Parts.{rooms}
use Rattle.fx_panes_parts.proofs.levels.taken.Given as goal

-- the sum so far and what is left make the whole, up to the end of the type
abbrev pub invariant-loop-part : goal.invariant-loop-part
invariant-loop-part g l =
    record {
      fits : l.sum ≤ 2 ^ 64 - 1;
      same : min (l.sum + filled l.level (rooms l.room (map (g.T.Parted.part_along l.axis) (drop l.part-index l.parts)))) (2 ^ 64 - 1)
          ≡ min (filled l.level (rooms l.room (map (g.T.Parted.part_along l.axis) l.parts))) (2 ^ 64 - 1);
    }
