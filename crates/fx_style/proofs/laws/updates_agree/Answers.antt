use Rattle.std.proofs.Common.{◌∙◌, ap}
use Rattle.std.specs.Option.{option_map}
use Rattle.std.proofs.lemmas.Option.{slice_get_within}
use Rattle.fx_style.specs.Kept.{entry}
use Rattle.fx_style.specs.Rules.{kept_of}
use Rattle.fx_style.proofs.UpdateLemmas.{from_nothing}
use Rattle.fx_style.proofs.laws.updates_agree.Goals as goal

pub returns : goal.returns
returns c = λ sheets facts restyle old new before right update at node is.
    update.each at node is
    ∙ ap (option_map (entry node.key))
    (from_nothing sheets facts restyle (kept_of old facts) before right at (slice_get_within facts at node is))
