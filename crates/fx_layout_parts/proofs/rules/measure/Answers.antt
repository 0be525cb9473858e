use Rattle.std.proofs.Common.{sym, subst}
use Rattle.std.proofs.lemmas.Result.{IfOk-weaker}
use Rattle.fx_boxes.specs.Controls.{control_widths}
use Rattle.fx_layout_parts.specs.declared.rules.Rule.{Rule}
use Rattle.fx_layout_parts.specs.Rules.{AreSizesBy}
use Rattle.fx_layout_parts.proofs.rules.measure.Goals as goal

pub returns-in-Control-clause-sizes : goal.returns-in-Control-clause-sizes
returns-in-Control-clause-sizes g c =
    let facts = c.args.node.now.facts in
    let w = (control_widths facts).pref in
    IfOk-weaker c.measure-in-Control.result _ _
    (λ sizes is_control. (w, subst (λ (r : Rule). AreSizesBy r facts c.args.children.now w sizes) (sym c.in-Control.is) is_control))
    c.measure-in-Control.ensures.sizes
