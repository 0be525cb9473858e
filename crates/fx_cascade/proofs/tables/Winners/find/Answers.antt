use Rattle.std.proofs.Common.{◌≡◌, None, map, ◌∙◌, ap}
use Rattle.fx_cascade.specs.Sources.{code_voice, declared_voices}
use Rattle.fx_cascade.specs.Winners.{heard}
use Rattle.fx_cascade.proofs.PassLemmas.{best_is}
use Rattle.fx_cascade.proofs.tables.Winners.find.Goals as goal

pub returns-clause-winners : goal.returns-clause-winners
returns-clause-winners g c = λ name.
    let sheets = c.args.sheets.now in
    let matched = c.args.matched.now in
    let codes = c.args.codes.now in
    c.in_ok-hear_matched.ensures name
    ∙ ap (λ best. heard matched name best (declared_voices sheets 0 matched))
    (c.hear_codes.ensures name
    ∙ ap (λ best. heard matched name best (map code_voice codes)) (c.requires.none name))
    ∙ best_is sheets matched codes name
