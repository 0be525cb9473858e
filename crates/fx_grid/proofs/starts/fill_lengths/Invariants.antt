use Rattle.std.proofs.Common.{◌≡◌, ℕ, ◌++◌, ◌^◌, ◌<◌, drop, get_or, take}
use Rattle.fx_panes_parts.specs.Tracks.{lengths_by, tracked}
use Rattle.fx_grid.proofs.starts.fill_lengths.Given as goal

-- the lengths so far and those to come are all
abbrev pub invariant-loop-k : goal.invariant-loop-k
invariant-loop-k l =
    record {
      same : take l.k l.lengths ++ lengths_by l.plan (drop l.k l.tracks) ≡ tracked l.room l.tracks;
      short : (k : ℕ) → k < l.k → get_or l.lengths k 0 < 2 ^ 34;
    }
