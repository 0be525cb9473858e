-- the words in front, and the pixels behind them
use Rattle.std.proofs.Common.{◌∙◌, ap, ◌++◌, codes}
use Rattle.std.specs.Fmt.{decimal}
use Rattle.fx_delta.specs.Lines.{item_line}
use Rattle.fx_row_text.specs.Rows.{pixels_text, row_text}
use Rattle.fx_delta.proofs.RowLemmas.{item_joins}
use Rattle.fx_delta.proofs.rows.item_text.Goals as goal

pub returns : goal.returns
unfolding item_line row_text
returns c =
    c.in_ok-append_row.ensures.ok
    ∙ ap (λ text. text ++ row_text c.args.pixels.now) c.in_ok-text.ensures
    ∙ item_joins (codes "row ") (decimal c.args.x) (decimal c.args.y) (pixels_text c.args.pixels.now)
