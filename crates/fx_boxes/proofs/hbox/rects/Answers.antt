use Rattle.std.proofs.Common.{◌∙◌, ap, length}
use Rattle.fx_panes_parts.proofs.PaneLemmas.{length-placed}
use Rattle.fx_boxes.specs.Rows.{beside_spans, row_spans}
use Rattle.fx_boxes.proofs.Outcomes.{if_ok}
use Rattle.fx_boxes.proofs.RowLemmas.{one_each_beside, one_each_row}
use Rattle.fx_boxes.proofs.hbox.rects.Goals as goal

pub returns-clause-rects : goal.returns-clause-rects
returns-clause-rects c = if_ok _ _ c.row_rects.result (λ rects same. same) c.row_rects.ensures

pub returns-clause-each : goal.returns-clause-each
returns-clause-each c =
    if_ok _ _ c.row_rects.result
    (λ rects same. ap length same
    ∙ length-placed row_spans beside_spans one_each_row one_each_beside c.args.pane.now c.args.children.now c.args.w c.args.h)
    c.row_rects.ensures
