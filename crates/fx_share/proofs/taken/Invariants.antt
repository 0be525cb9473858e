use Rattle.std.proofs.Common.{◌≡◌, ◌+◌, ◌-◌, ◌^◌, ◌≤◌, drop, min}
use Rattle.fx_share.specs.Levels.{filled}
use Rattle.fx_share.proofs.taken.Given as goal

-- the sum so far and what is left make the whole, up to the end of the type
abbrev pub invariant-loop-cap : goal.invariant-loop-cap
invariant-loop-cap l =
    record {
      fits : l.sum ≤ 2 ^ 64 - 1;
      same : min (l.sum + filled l.level (drop l.cap-index l.caps)) (2 ^ 64 - 1) ≡ min (filled l.level l.caps) (2 ^ 64 - 1);
    }
