use Rattle.std.proofs.Common.{◌≡◌, ◌≤◌, drop, length}
use Rattle.std.specs.Prelude.{IfSome}
use Rattle.std.specs.Option.{option_copied}
use Rattle.fx_keyframes.specs.Reading.{after}
use Rattle.fx_keyframes.proofs.reading.after.Given as goal

-- what the frames from a place on give
abbrev pub invariant-loop-place : goal.invariant-loop-place
invariant-loop-place l =
    record {
      within : l.place ≤ length l.frames;
      found : option_copied l.found ≡ after l.name l.position (drop l.place l.frames);
      late : IfSome l.found (λ frame. l.position ≤ frame.now.at);
    }

abbrev pub decreases-loop-place : goal.decreases-loop-place
decreases-loop-place l = l.place
