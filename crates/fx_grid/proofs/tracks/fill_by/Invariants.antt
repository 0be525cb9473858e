use Rattle.std.proofs.Common.{◌≡◌, ℕ, ◌<◌, get_or}
use Rattle.fx_panes_parts.specs.declared.parts.Part.{Part}
use Rattle.fx_grid.specs.Tracks.{track_at_place}
use Rattle.fx_grid.proofs.tracks.fill_by.Given as goal

-- so far each track is that of its place
abbrev pub invariant-loop-k : goal.invariant-loop-k
invariant-loop-k l = (k : ℕ) (other : Part) → k < l.k
    → get_or l.tracks k other ≡ track_at_place l.given l.needs l.leasts l.wishes k
