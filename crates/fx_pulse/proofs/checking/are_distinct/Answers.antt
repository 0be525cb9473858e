use Rattle.fx_damage.proofs.CheckLemmas.{distinct_test}
use Rattle.fx_pulse.proofs.checking.are_distinct.Goals as goal

pub returns : goal.returns
returns c =
    distinct_test _ _ _ _ c.is_increasing.ensures c.as_slice.ensures.value
    c.sort_unstable.ensures.permutation c.sort_unstable.ensures.sorted
