use Rattle.fx_boxes.proofs.RowLemmas.{row_starts}
use Rattle.fx_boxes.proofs.rows.row_for.Goals as goal

pub returns-clause-spans : goal.returns-clause-spans
returns-clause-spans c = λ children same.
    row_starts c.args.pane.now children c.args.parts.now c.args.length_along c.content-space.result c.gaps-between.result
    c.whole.result c.aligned.result c.plan_for-plan.result same c.content-space.ensures.value c.gaps-between.ensures.value
    (rw c.saturating_sub.ensures at c.plan_for-plan.ensures) c.whole.ensures.value c.aligned.ensures.value
