use Rattle.std.proofs.Common.{◌≡◌, ◌≤◌, drop, length}
use Rattle.fx_anim.specs.Line.{longest}
use Rattle.fx_anim.proofs.timeline.longest.Given as goal

-- the greatest time of the frames from a place on
abbrev pub invariant-loop-place : goal.invariant-loop-place
invariant-loop-place l = record { within : l.place ≤ length l.frames; most : l.most ≡ longest (drop l.place l.frames) }

abbrev pub decreases-loop-place : goal.decreases-loop-place
decreases-loop-place l = l.place
