use Rattle.std.proofs.Common.{◌≡◌, ◌+◌, ◌-◌, ◌^◌, ◌≤◌, drop, min, sum}
use Rattle.fx_grid.proofs.sharing.whole.Given as goal

-- the sum so far and what is left make the whole, up to the end of the type
abbrev pub invariant-loop-length : goal.invariant-loop-length
invariant-loop-length l =
    record {
      fits : l.sum ≤ 2 ^ 64 - 1;
      same : min (l.sum + sum (drop l.length-index l.lengths)) (2 ^ 64 - 1) ≡ min (sum l.lengths) (2 ^ 64 - 1);
    }
