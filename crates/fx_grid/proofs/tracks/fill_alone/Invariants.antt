use Rattle.std.proofs.Common.{◌≡◌, ℕ, ◌<◌, get_or}
use Rattle.fx_grid.specs.Tracks.{length_at_place}
use Rattle.fx_grid.proofs.tracks.fill_alone.Given as goal

-- so far each length is that of its place
abbrev pub invariant-loop-k : goal.invariant-loop-k
invariant-loop-k l = (k : ℕ) → k < l.k → get_or l.lengths k 0 ≡ length_at_place l.bound l.given l.needs k
