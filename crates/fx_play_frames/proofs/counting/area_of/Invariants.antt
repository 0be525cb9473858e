-- the rectangles so far are added up
use Rattle.std.proofs.Common.{◌≡◌, ◌≤◌, ◌*◌, ◌^◌, sum_by, take}
use Rattle.fx_plain_frames.specs.Pulses.{area_of}
use Rattle.fx_play_frames.proofs.counting.area_of.Given as goal

abbrev pub invariant-loop-rect : goal.invariant-loop-rect
invariant-loop-rect l = record {
  area : l.area ≡ sum_by area_of (take l.rect-index l.rects);
  small : l.area ≤ l.rect-index * 2 ^ 24;
}
