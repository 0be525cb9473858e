use Rattle.std.proofs.Common.{w64, SFits, rules}
use Rattle.std.proofs.lemmas.Int.{to_z-of_z}
use Rattle.fx_layout_parts.proofs.LeafLemmas.{label_heights_are}
use Rattle.fx_layout_parts.proofs.leaves.label_heights.Goals as goal

pub returns : goal.returns
returns c =
    let fits : SFits w64 c.args.look.now.font_size = search rules in (
      c.if-look.false,
      λ node. label_heights_are node c.args.look.now c.look_axis-axis.result _ c.line_heights.result _
          (c.look_axis-axis.ensures.value node) (to_z-of_z w64 c.args.look.now.font_size fits) c.line_heights.ensures
          c.in_pixels.ensures,
    )
