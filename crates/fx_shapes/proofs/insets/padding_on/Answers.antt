use Rattle.std.proofs.Common.{rules, ◌∙◌, FitsSigned, ap, w64}
use Rattle.std.proofs.lemmas.Int.{to_z-of_z}
use Rattle.fx_panes_parts.specs.Lengths.{length_of}
use Rattle.fx_shapes.proofs.InsetLemmas.{bare_on}
use Rattle.fx_shapes.proofs.insets.padding_on.Goals as goal

pub returns : goal.returns
returns c =
    let fits : FitsSigned w64 c.on.result = search rules in
    c.length_of.ensures.value ∙ ap length_of (to_z-of_z w64 c.on.result fits ∙ c.on.ensures)
    ∙ bare_on c.args.side c.args.look.now c.requires
