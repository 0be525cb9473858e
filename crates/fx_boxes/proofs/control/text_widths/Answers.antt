use Rattle.std.proofs.Common.{◌∙◌, ap, sym, chars, w64}
use Rattle.std.proofs.lemmas.Int.{to_z-of_z}
use Rattle.fx_boxes.specs.Controls.{scale_of}
use Rattle.fx_boxes.proofs.ControlLemmas.{widths_are, widths_given}
use Rattle.fx_boxes.proofs.control.text_widths.Goals as goal

pub returns-then-is_given : goal.returns-then-is_given
returns-then-is_given c =
    widths_given c.args.across.now c.args.font_size (chars c.args.text.now) _ c.insets-around.result
    c.insets-around.ensures.value (sym c.is_given.ensures ∙ c.if-is_given.true) c.control_extent.ensures.value

pub returns : goal.returns
returns c =
    widths_are c.args.across.now c.args.font_size (chars c.args.text.now) _ c.insets-around.result c.scale_of.result
    c.saturating_mul-letters.result c.saturating_add.result c.insets-around.ensures.value
    (c.scale_of.ensures.value ∙ ap scale_of (to_z-of_z w64 c.args.font_size c.ranges.font_size))
    (rw c.cells.ensures at c.saturating_mul-letters.ensures) c.saturating_add.ensures c.control_extent-2.ensures.value
