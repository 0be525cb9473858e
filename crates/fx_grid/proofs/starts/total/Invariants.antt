use Rattle.std.proofs.Common.{◌≡◌, ◌+◌, ◌*◌, ◌^◌, ◌≤◌, drop, sum}
use Rattle.fx_grid.proofs.starts.total.Given as goal

-- the sum so far and what is left make the whole
abbrev pub invariant-loop-length : goal.invariant-loop-length
invariant-loop-length l =
    record { same : l.sum + sum (drop l.length-index l.lengths) ≡ sum l.lengths; few : l.sum ≤ 2 ^ 34 * l.length-index }
