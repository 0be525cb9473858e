use Rattle.std.proofs.Common.{sym, ◌∙◌}
use Rattle.std.proofs.lemmas.Bool.{eqb-true}
use Rattle.fx_layout_parts.proofs.InsetLemmas.{without_border}
use Rattle.fx_layout_parts.proofs.boxes.inset.Goals as goal

pub returns-then-is_empty-clause-value : goal.returns-then-is_empty-clause-value
returns-then-is_empty-clause-value c =
    c.padding.ensures.value
    ∙ without_border c.args.side c.args.look.now
    (eqb-true _ 0 (rw c.as_slice.ensures at (sym c.is_empty.ensures ∙ c.if-is_empty.true)))
