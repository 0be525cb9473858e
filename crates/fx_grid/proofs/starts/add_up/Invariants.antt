use Rattle.std.proofs.Common.{◌≡◌, ℕ, ◌+◌, ◌*◌, ◌++◌, ◌^◌, ◌<◌, ◌≤◌, drop, get_or, length, take}
use Rattle.fx_grid.specs.Starts.{starts_from}
use Rattle.fx_grid.proofs.starts.add_up.Given as goal

-- the starts so far and those to come are all, and none is far
abbrev pub invariant-loop-k : goal.invariant-loop-k
invariant-loop-k l =
    record {
      same : take l.k l.lengths ++ starts_from l.next l.gap (drop l.k l.lengths)
          ≡ starts_from l.start l.gap l.fn.lengths;
      next_near : l.next ≤ 200000 + (2 ^ 34 + 100000) * l.k;
      near : (k : ℕ) → k < l.k → get_or l.lengths k 0 < 2 ^ 62;
      short : (k : ℕ) → l.k ≤ k → k < length l.lengths → get_or l.lengths k 0 < 2 ^ 34;
    }
