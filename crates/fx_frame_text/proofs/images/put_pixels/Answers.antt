-- a row more is written, or a prefix of it
use Rattle.std.proofs.Common.{◌+◌, arith}
use Rattle.fx_frame_text.specs.Canvases.{image_on}
use Rattle.fx_frame_text.specs.declared.forms.Form.TheVariants as form
use Rattle.fx_port.proofs.Growth.{goes_on, stops_within, Writes-at_err}
use Rattle.fx_frame_text.proofs.ImageLemmas.{given_bytes, row_next, rows_from}
use Rattle.fx_frame_text.proofs.images.put_pixels.Goals as goal

pub returns-in_err-put-clause-writes : goal.returns-in_err-put-clause-writes
returns-in_err-put-clause-writes g c =
    let image = image_on c.args.canvas.now in
    let given = given_bytes c.as_slice.ensures.value c.in_ok-print_bytes.ensures c.row.ensures.pixels in
    Writes-at_err _ c.from_residual-in_err-put.result c.from_residual-in_err-put.ensures.1
    (stops_within (rows_from form.Ppm image (c.loop-y.y + 1)) c.loop-y.invariant.written
    (row_next form.Ppm image c.loop-y.y c.as_slice.result.now (omega (arith, c.loop-y-test.true, c.height-y-end.ensures.value)) given)
    c.in_err-put.ensures.writes.err)

pub loop-y-preserved : goal.loop-y-preserved
loop-y-preserved g c =
    let image = image_on c.args.canvas.now in
    let given = given_bytes c.as_slice.ensures.value c.in_ok-print_bytes.ensures c.row.ensures.pixels in
    record {
      later = omega (arith, c.loop-y.invariant.later, c.in_ok-put.ensures.cause.later);
      written = goes_on c.as_slice.result.now (rows_from form.Ppm image (c.loop-y.y + 1)) c.loop-y.invariant.written
          (row_next form.Ppm image c.loop-y.y c.as_slice.result.now (omega (arith, c.loop-y-test.true, c.height-y-end.ensures.value)) given)
          c.in_ok-put.ensures.writes.ok;
    }
