use Rattle.fx_damage.proofs.CheckLemmas.{births_test}
use Rattle.fx_damage.proofs.checks.has_distinct_births.Goals as goal

pub returns : goal.returns
returns c = births_test _ _ _ _ c.are_distinct.ensures c.in_ok-births.ensures c.as_slice.ensures
