use Rattle.std.proofs.Common.{◌∙◌, ap, length}
use Rattle.fx_panes_parts.specs.Axes.{rect_of}
use Rattle.fx_panes_parts.proofs.PaneLemmas.{length-placed}
use Rattle.fx_boxes.specs.Rows.{beside_spans, row_spans}
use Rattle.fx_boxes.proofs.Outcomes.{if_ok}
use Rattle.fx_boxes.proofs.RowLemmas.{one_each_beside, one_each_row, zip2-flip}
use Rattle.fx_boxes.proofs.vbox.rects.Goals as goal

pub returns-clause-rects : goal.returns-clause-rects
returns-clause-rects c = if_ok _ _ c.row_rects.result (λ rects same. (same ∙ zip2-flip rect_of _ _)) c.row_rects.ensures

pub returns-clause-each : goal.returns-clause-each
returns-clause-each c =
    if_ok _ _ c.row_rects.result
    (λ rects same. ap length (same ∙ zip2-flip rect_of _ _)
    ∙ length-placed beside_spans row_spans one_each_beside one_each_row c.args.pane.now c.args.children.now c.args.w c.args.h)
    c.row_rects.ensures
