use Rattle.std.proofs.Common.{◌≡◌, None, map, ◌∙◌, ap}
use Rattle.fx_cascade.specs.Sources.{code_voice, declared_voices}
use Rattle.fx_cascade.specs.Winners.{heard}
use Rattle.fx_cascade.proofs.PassLemmas.{best_is}
use Rattle.fx_cascade.proofs.one_property.best_source.Goals as goal

pub returns : goal.returns
returns c =
    let matched = c.args.matched.now in
    let name = c.args.property.now in
    c.best_declared.ensures
    ∙ ap (λ best. heard matched name best (declared_voices c.args.sheets.now 0 matched)) c.best_code.ensures
    ∙ best_is c.args.sheets.now matched c.args.codes.now name
