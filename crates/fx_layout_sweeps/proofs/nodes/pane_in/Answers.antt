use Rattle.std.proofs.Common.{ap, ◌∙◌}
use Rattle.fx_look.specs.declared.looks.Look.{Look}
use Rattle.fx_panes_parts.specs.Axes.{pane_axis}
use Rattle.fx_layout_parts.specs.Boxes.{pane_facts}
use Rattle.fx_layout_sweeps.proofs.Reading.{look_read}
use Rattle.fx_layout_sweeps.proofs.nodes.pane_in.Goals as goal

pub returns-clause-value : goal.returns-clause-value
returns-clause-value c = λ node.
    c.look_axis.ensures.value node
    ∙ ap (λ (l : Look). pane_axis c.args.axis (pane_facts node l))
    (look_read c.args.looks.now c.args.place c.index-looks-place.result c.requires c.index-looks-place.is)
