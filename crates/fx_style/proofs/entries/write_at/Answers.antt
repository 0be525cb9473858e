use Rattle.std.proofs.Common.{◌++◌, ◌∷◌, [], take, ◌∙◌, ap}
use Rattle.std.proofs.lemmas.List.{take_more_set}
use Rattle.fx_node_style.specs.declared.node_styles.NodeStyle.{NodeStyle}
use Rattle.fx_style.specs.Kept.{entry}
use Rattle.fx_style.proofs.entries.write_at.Goals as goal

pub returns : goal.returns
returns c =
    let all = c.args.all.now in
    let count = c.args.count in
    take_more_set all count _ c.requires
    ∙ ap (λ (s : NodeStyle). take count all ++ record { at = c.args.at; entry = entry c.args.key s } ∷ [])
    c.swap.ensures.x_after
