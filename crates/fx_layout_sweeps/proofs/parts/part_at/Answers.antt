use Rattle.std.proofs.Common.{◌≡◌, sym, ◌∙◌}
use Rattle.fx_panes_parts.specs.declared.axes.ChildAxis.{ChildAxis}
use Rattle.fx_panes_parts.specs.Parts.{part_of}
use Rattle.fx_layout_sweeps.proofs.PlainChildren.{plain_said}
use Rattle.fx_layout_sweeps.proofs.parts.part_at.Goals as goal

pub returns-then-is_plain : goal.returns-then-is_plain
returns-then-is_plain c =
    let scene = c.args.scene in
    plain_said (λ (child : ChildAxis). c.plain_at.result ≡ part_of child) scene.axis c.args.rule scene.nodes.now
    scene.widths.now scene.heights.now c.args.place (sym c.is_plain.ensures ∙ c.if-is_plain.true) c.plain_at.ensures
