use Rattle.std.proofs.Common.{◌≡◌, drop, take, map}
use Rattle.fx_anim.specs.Line.{ticked}
use Rattle.fx_anim.specs.Shown.{line_of}
use Rattle.fx_anim.proofs.timelines.advance_all.Given as goal

-- time has passed for those so far, and the others are as they were
abbrev pub invariant-loop-place : goal.invariant-loop-place
invariant-loop-place l =
    record {
      done : map line_of (take l.place l.lines) ≡ map (ticked l.ms) (map line_of (take l.place l.fn.lines));
      rest : drop l.place l.lines ≡ drop l.place l.fn.lines;
    }
