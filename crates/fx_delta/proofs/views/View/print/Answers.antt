-- a row more, or a part of it
use Rattle.std.proofs.Common.{◌∙◌, ap, ◌++◌}
use Rattle.fx_delta.specs.Pictures.{image}
use Rattle.fx_row_text.specs.Rows.{row_text}
use Rattle.fx_delta.proofs.PictureLemmas.{rows_text, rows_text-more}
use Rattle.fx_delta.proofs.RowLemmas.{Appends-at_err}
use Rattle.fx_delta.proofs.views.View.print.Goals as goal

pub loop-y-preserved : goal.loop-y-preserved
loop-y-preserved c =
    rows_text-more c.args.self.now c.loop-y.y c.args.out.now.items c.loop-y.out.items c.append_row.new.text.items c.loop-y.invariant
    (c.in_ok-append_row.ensures.ok ∙ ap (λ row. c.loop-y.out.items ++ row_text row) c.row.ensures)

pub returns-in_err-append_row : goal.returns-in_err-append_row
returns-in_err-append_row c =
    Appends-at_err _ (rows_text c.args.self.now c.loop-y.y) (image c.args.self.now) c.from_residual.result c.from_residual.ensures.1
    c.loop-y.invariant c.in_err-append_row.ensures.err
