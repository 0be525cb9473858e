-- those so far, and those that are left
use Rattle.std.proofs.Common.{◌≡◌, ◌++◌, drop}
use Rattle.fx_plain_frames.specs.Pulses.{sizes_of}
use Rattle.fx_play_frames.proofs.scenes.sizes_of.Given as goal

abbrev pub invariant-loop-place : goal.invariant-loop-place
invariant-loop-place l =
    l.sizes.items ++ sizes_of (drop l.place l.fn.boxes) (drop l.place l.fn.rects) ≡ sizes_of l.fn.boxes l.fn.rects
