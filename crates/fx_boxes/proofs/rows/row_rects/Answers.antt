use Rattle.fx_boxes.proofs.RowLemmas.{rows_end}
use Rattle.fx_boxes.proofs.rows.row_rects.Goals as goal

pub returns : goal.returns
returns c =
    rows_end c.args.axis c.loop-child.row c.args.children.now _ _ c.loop-child-test.false _ _ c.loop-child.invariant.same
