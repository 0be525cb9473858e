use Rattle.std.proofs.Common.{w64, SFits, rules}
use Rattle.std.proofs.lemmas.Int.{to_z-of_z}
use Rattle.fx_layout_parts.proofs.LeafLemmas.{label_widths_are}
use Rattle.fx_layout_parts.proofs.leaves.label_widths.Goals as goal

pub returns : goal.returns
returns c =
    let fits : SFits w64 c.args.look.now.font_size = search rules in (
      c.if-look.false,
      label_widths_are c.args.node.now c.args.look.now c.look_axis-axis.result _ c.as_str.result.now
          c.text_widths-widths.result _ (c.look_axis-axis.ensures.value c.args.node.now)
          (to_z-of_z w64 c.args.look.now.font_size fits) c.as_str.ensures.text c.text_widths-widths.ensures c.in_pixels.ensures,
    )
