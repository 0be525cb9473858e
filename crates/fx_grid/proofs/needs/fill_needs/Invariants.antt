use Rattle.std.proofs.Common.{◌≡◌, ℕ, ◌<◌, ◌≤◌, drop, length, get_or}
use Rattle.fx_panes_parts.specs.Axes.{along}
use Rattle.fx_grid.specs.declared.needs.Need.{Need}
use Rattle.fx_grid.specs.Tracks.{need_of}
use Rattle.fx_grid.proofs.needs.fill_needs.Given as goal

-- so far what the children from a place on need
abbrev pub invariant-loop-place : goal.invariant-loop-place
invariant-loop-place l =
    record {
      within : l.place ≤ length l.children;
      needed : (k : ℕ) (other : Need) → k < length l.needs
          → get_or l.needs k other ≡ need_of (along l.axis (drop l.place l.children)) k;
    }

abbrev pub decreases-loop-place : goal.decreases-loop-place
decreases-loop-place l = l.place
