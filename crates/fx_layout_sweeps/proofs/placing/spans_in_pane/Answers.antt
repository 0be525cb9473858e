use Rattle.std.proofs.Common.{◌∙◌}
use Rattle.std.proofs.lemmas.Result.{IfOk-weaker}
use Rattle.fx_layout_sweeps.proofs.placing.spans_in_pane.Goals as goal

pub returns-clause-spans : goal.returns-clause-spans
returns-clause-spans g c =
    IfOk-weaker c.halves.result _ _ (λ spans same. same ∙ c.in_ok-rects.ensures.rects)
    (rw c.as_slice.ensures.value at c.halves.ensures)
