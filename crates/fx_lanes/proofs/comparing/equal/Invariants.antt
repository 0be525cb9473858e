-- The fronts are the same, and both rows are as long.
-- What is left gets shorter with each block.
use Rattle.std.proofs.Common.{◌≡◌, ◌≤◌, ◌-◌, length, take}
use Rattle.fx_lanes.proofs.comparing.equal.Given as goal

abbrev pub invariant-loop-at : goal.invariant-loop-at
invariant-loop-at l = (length l.a ≡ length l.b) × (l.at ≤ length l.a) × (take l.at l.a ≡ take l.at l.b)

abbrev pub decreases-loop-at : goal.decreases-loop-at
decreases-loop-at l = length l.a - l.at

abbrev pub invariant-loop-i : goal.invariant-loop-i
invariant-loop-i l = (length l.a ≡ length l.b) × (take l.i l.a ≡ take l.i l.b)
