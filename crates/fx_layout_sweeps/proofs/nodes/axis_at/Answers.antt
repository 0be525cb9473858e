use Rattle.std.proofs.Common.{sym, subst}
use Rattle.fx_panes_parts.specs.declared.axes.ChildAxis.{ChildAxis}
use Rattle.fx_panes_parts.specs.Axes.{IsChildAxis}
use Rattle.fx_layout_sweeps.proofs.Reading.{axis_held}
use Rattle.fx_layout_sweeps.proofs.nodes.axis_at.Goals as goal

pub returns-clause-bounds : goal.returns-clause-bounds
returns-clause-bounds c =
    subst (λ (child : ChildAxis). IsChildAxis child) (sym c.child_along.ensures) (axis_held c.args.axis _)
