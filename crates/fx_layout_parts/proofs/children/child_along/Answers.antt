use Rattle.std.proofs.Common.{ap, sym, ◌∙◌}
use Rattle.std.proofs.lemmas.Bool.{eqb-true}
use Rattle.fx_panes_parts.specs.Axes.{child_axis}
use Rattle.fx_layout_parts.specs.Children.{child_of}
use Rattle.fx_layout_parts.proofs.LeafLemmas.{without_constraints}
use Rattle.fx_layout_parts.proofs.children.child_along.Goals as goal

pub returns-then-is_empty : goal.returns-then-is_empty
unfolding child_of
returns-then-is_empty c =
    c.plain_along.ensures
    ∙ ap (child_axis c.args.axis) (sym (without_constraints c.args.pane c.args.node.now.constraints c.args.node.now c.args.across c.args.down
    (eqb-true _ 0 (rw c.as_slice-said.ensures at (sym c.is_empty.ensures ∙ c.if-is_empty.true)))))
