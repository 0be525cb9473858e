use Rattle.std.proofs.Common.{◌≡◌, sym, subst}
use Rattle.fx_panes_parts.specs.Axes.{pane_axis}
use Rattle.fx_layout_parts.specs.Boxes.{pane_facts}
use Rattle.fx_layout_parts.proofs.boxes.look_axis.Goals as goal

pub returns-in-Across-clause-value : goal.returns-in-Across-clause-value
returns-in-Across-clause-value c = λ node.
    subst (λ axis. c.look_across.result ≡ pane_axis axis (pane_facts node c.args.look.now)) (sym c.in-Across.is)
    (c.look_across.ensures.value node)

pub returns-in-Down-clause-value : goal.returns-in-Down-clause-value
returns-in-Down-clause-value c = λ node.
    subst (λ axis. c.look_down.result ≡ pane_axis axis (pane_facts node c.args.look.now)) (sym c.in-Down.is)
    (c.look_down.ensures.value node)
