-- the looks so far are visible
use Rattle.std.proofs.Common.{◌≡◌, ◌<◌, ℕ, true}
use Rattle.fx_layout_sweeps.specs.Nodes.{look_at}
use Rattle.fx_pulse.proofs.flags.are_visible.Given as goal

abbrev pub invariant-loop-place : goal.invariant-loop-place
invariant-loop-place l = (k : ℕ) → k < l.place → (look_at l.looks k).visibility ≡ true
