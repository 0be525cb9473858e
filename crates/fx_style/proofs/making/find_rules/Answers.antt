use Rattle.std.proofs.Common.{◌∙◌}
use Rattle.fx_select.proofs.LawLemmas.{all-matched}
use Rattle.fx_style.proofs.DoneLemmas.{ok_then}
use Rattle.fx_style.proofs.making.find_rules.Goals as goal

pub returns : goal.returns
returns c =
    let scene = c.args.scene in
    ok_then c.find_matched.result
    (λ is.
    is ∙ all-matched scene.sheets.now scene.index.now scene.facts.now c.args.at c.requires.before c.requires.there
    c.requires.sheets.listed)
    c.find_matched.ensures
