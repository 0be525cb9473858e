use Rattle.std.proofs.Common.{◌≡◌, ℕ, ◌+◌, ◌^◌, ◌<◌, ◌≤◌, ◌++◌, drop, take, length, get_or}
use Rattle.std.specs.Simd.Lanes.{zip2}
use Rattle.fx_grid.proofs.sharing.add.Given as goal

-- what has been added, and what there is to add, is the whole
abbrev pub invariant-loop-i : goal.invariant-loop-i
invariant-loop-i l =
    record {
      same : take l.i l.lengths ++ zip2 (λ one more. one + more) (drop l.i l.lengths) (drop l.i l.more)
          ≡ zip2 (λ one more. one + more) l.fn.lengths l.more;
      rest : (k : ℕ) → l.i ≤ k → k < length l.lengths → get_or l.lengths k 0 + get_or l.more k 0 < 2 ^ 64;
    }
