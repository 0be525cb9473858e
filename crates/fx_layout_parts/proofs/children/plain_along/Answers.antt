use Rattle.std.proofs.Common.{◌≡◌, subst, sym}
use Rattle.fx_panes_parts.specs.Axes.{child_axis}
use Rattle.fx_layout_parts.specs.Children.{plain_child}
use Rattle.fx_layout_parts.proofs.children.plain_along.Goals as goal

pub returns-in-Across : goal.returns-in-Across
returns-in-Across c =
    subst (λ axis. c.plain_across.result ≡ child_axis axis (plain_child c.args.node.now c.args.across c.args.down))
    (sym c.in-Across.is) (c.plain_across.ensures c.args.down)

pub returns-in-Down : goal.returns-in-Down
returns-in-Down c =
    subst (λ axis. c.plain_down.result ≡ child_axis axis (plain_child c.args.node.now c.args.across c.args.down))
    (sym c.in-Down.is) (c.plain_down.ensures c.args.across)
