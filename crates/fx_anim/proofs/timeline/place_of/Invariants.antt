use Rattle.std.proofs.Common.{◌≡◌, ◌++◌, drop, take}
use Rattle.fx_anim.specs.Line.{is_new, put_frame}
use Rattle.fx_anim.proofs.timeline.place_of.Given as goal

-- none of the frames so far is the same
abbrev pub invariant-loop-place : goal.invariant-loop-place
invariant-loop-place l =
    record {
      put : put_frame l.new l.frames ≡ take l.place l.frames ++ put_frame l.new (drop l.place l.frames);
      fresh : is_new l.new l.frames ≡ is_new l.new (drop l.place l.frames);
    }
