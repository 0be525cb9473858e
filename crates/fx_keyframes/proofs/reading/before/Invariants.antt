use Rattle.std.proofs.Common.{◌≡◌, ◌≤◌, drop, length}
use Rattle.std.specs.Option.{option_copied}
use Rattle.fx_keyframes.specs.Reading.{before}
use Rattle.fx_keyframes.proofs.reading.before.Given as goal

-- what the frames from a place on give
abbrev pub invariant-loop-place : goal.invariant-loop-place
invariant-loop-place l =
    record {
      within : l.place ≤ length l.frames;
      found : option_copied l.found ≡ before l.name l.position (drop l.place l.frames);
    }

abbrev pub decreases-loop-place : goal.decreases-loop-place
decreases-loop-place l = l.place
