-- the rows so far are added up, each at most 2^43
use Rattle.std.proofs.Common.{◌≡◌, ◌≤◌, ◌+◌, ◌*◌, ◌^◌}
use Rattle.fx_frame_text.specs.Canvases.{image_on}
use Rattle.fx_frame_text.specs.Frames.{pixel_sum}
use Rattle.fx_frame_text.proofs.ImageLemmas.{sum_from}
use Rattle.fx_frame_text.proofs.sums.canvas_sum.Given as goal

abbrev pub invariant-loop-y : goal.invariant-loop-y
invariant-loop-y l = record {
  sum : l.total + sum_from (image_on l.fn.canvas) l.y ≡ pixel_sum (image_on l.fn.canvas);
  small : l.total ≤ l.y * 2 ^ 43;
}
