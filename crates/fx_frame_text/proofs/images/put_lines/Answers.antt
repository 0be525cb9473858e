-- a row more is written, or a prefix of it
use Rattle.std.proofs.Common.{◌+◌, arith}
use Rattle.fx_frame_text.specs.Canvases.{image_on}
use Rattle.fx_frame_text.specs.declared.forms.Form.TheVariants as form
use Rattle.fx_port.proofs.Growth.{goes_on, stops_within, Writes-at_err}
use Rattle.fx_frame_text.proofs.ImageLemmas.{row_next, rows_from}
use Rattle.fx_frame_text.proofs.images.put_lines.Goals as goal

pub returns-in_err-put-clause-writes : goal.returns-in_err-put-clause-writes
returns-in_err-put-clause-writes g c =
    let image = image_on c.args.canvas.now in
    Writes-at_err _ c.from_residual.result c.from_residual.ensures.1
    (stops_within (rows_from form.Text image (c.loop-y.y + 1)) c.loop-y.invariant.written
    (row_next form.Text image c.loop-y.y c.text.result.now (omega (arith, c.loop-y-test.true, c.height-y-end.ensures.value)) c.text.ensures)
    c.in_err-put.ensures.writes.err)

pub loop-y-preserved : goal.loop-y-preserved
loop-y-preserved g c =
    let image = image_on c.args.canvas.now in
    record {
      later = omega (arith, c.loop-y.invariant.later, c.in_ok-put.ensures.cause.later);
      written = goes_on c.text.result.now (rows_from form.Text image (c.loop-y.y + 1)) c.loop-y.invariant.written
          (row_next form.Text image c.loop-y.y c.text.result.now (omega (arith, c.loop-y-test.true, c.height-y-end.ensures.value)) c.text.ensures)
          c.in_ok-put.ensures.writes.ok;
    }
