use Rattle.std.proofs.Common.{◌∙◌, ap, w64}
use Rattle.std.proofs.lemmas.Int.{to_z-of_z}
use Rattle.fx_boxes.specs.Controls.{scale_of}
use Rattle.fx_boxes.proofs.ControlLemmas.{heights_are}
use Rattle.fx_boxes.proofs.control.line_heights.Goals as goal

pub returns : goal.returns
returns c =
    heights_are c.args.down.now c.args.font_size _ c.insets.result c.scale_of.result c.args.lines
    c.saturating_mul-letters.result c.saturating_add-height.result c.insets.ensures.value
    (c.scale_of.ensures.value ∙ ap scale_of (to_z-of_z w64 c.args.font_size c.ranges.font_size))
    c.saturating_mul-letters.ensures c.saturating_add-height.ensures c.control_extent.ensures.value
