use Rattle.fx_select.proofs.AlikeLemmas.{match-alike}
use Rattle.fx_select.proofs.alike.ids_that_nobody_asks_for.Goals as goal

pub returns : goal.returns
returns c = λ sheets listing one other above is alike no_one no_other.
    match-alike sheets listing is one other above alike no_one no_other
