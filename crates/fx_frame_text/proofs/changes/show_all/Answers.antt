-- one row more is put, up to the last
use Rattle.std.proofs.Common.{◌∙◌, ap, arith}
use Rattle.fx_delta.specs.Pictures.{Picture}
use Rattle.fx_frame_text.specs.Canvases.{image_on}
use Rattle.fx_frame_text.proofs.ChangeLemmas.{all_rows_put, row_put, rows_put}
use Rattle.fx_frame_text.proofs.changes.show_all.Goals as goal

pub loop-y-preserved : goal.loop-y-preserved
loop-y-preserved c =
    let image = image_on c.args.canvas.now in
    let shown = c.put.ensures in
    record {
      width = ap (λ (p : Picture). p.width) shown ∙ c.loop-y.invariant.width;
      height = ap (λ (p : Picture). p.height) shown ∙ c.loop-y.invariant.height;
      shown = row_put image.row image.height c.loop-y.y c.loop-y.view c.put.new.self c.row.result.now
          (omega (arith, c.loop-y-test.true, c.height-y-end.ensures.value)) shown c.row.ensures.pixels
          c.loop-y.invariant.shown;
    }

pub returns : goal.returns
returns c =
    let image = image_on c.args.canvas.now in
    rows_put image.row image.height c.loop-y.y c.loop-y.view (omega (arith, c.loop-y-test.false, c.height-y-end.ensures.value))
    c.loop-y.invariant.shown
    ∙ all_rows_put image c.args.view.now c.requires.width c.requires.height c.laws.ensures.full
    (λ y h. c.laws-2.ensures.across y (omega (arith, h, c.laws-2.ensures.down)))
