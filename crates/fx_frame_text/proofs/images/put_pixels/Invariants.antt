-- the rows so far are written
use Rattle.std.proofs.Common.{◌≤◌}
use Rattle.fx_frame_text.specs.Canvases.{image_on}
use Rattle.fx_frame_text.specs.Frames.{rows_in}
use Rattle.fx_frame_text.specs.declared.forms.Form.TheVariants as form
use Rattle.fx_port.specs.Pieces.{GrewUpTo}
use Rattle.fx_frame_text.proofs.ImageLemmas.{rows_from}
use Rattle.fx_frame_text.proofs.images.put_pixels.Given as goal

abbrev pub invariant-loop-y : goal.invariant-loop-y
invariant-loop-y g l =
    let sink = g.O.Sink in
    record {
      later : sink.faults l.fn.out ≤ sink.faults l.out;
      written : GrewUpTo (sink.written l.fn.out) (sink.written l.out) (rows_in form.Ppm (image_on l.fn.canvas))
          (rows_from form.Ppm (image_on l.fn.canvas) l.y);
    }
