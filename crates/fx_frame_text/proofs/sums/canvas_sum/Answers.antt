-- one row more
use Rattle.std.proofs.Common.{◌≡◌, arith, ap, sum}
use Rattle.fx_frame_text.specs.Canvases.{image_on}
use Rattle.fx_frame_text.proofs.ImageLemmas.{sum_next}
use Rattle.fx_frame_text.proofs.sums.canvas_sum.Goals as goal

pub loop-y-preserved : goal.loop-y-preserved
loop-y-preserved c =
    let next = sum_next (image_on c.args.canvas.now) c.loop-y.y (omega (arith, c.loop-y-test.true, c.height-y-end.ensures.value)) in
    let given : sum c.row.result.now ≡ _ = ap sum c.row.ensures.pixels in
    record {
      sum = omega (arith, c.loop-y.invariant.sum, c.row_sum.ensures.sum, given, next);
      small = omega (arith, c.loop-y.invariant.small, c.row_sum.ensures.small, c.row.ensures.narrow);
    }
